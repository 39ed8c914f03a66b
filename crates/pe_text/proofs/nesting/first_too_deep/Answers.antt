use Rattle.std.proofs.Common.{rules, ◌≡◌, ◌+◌, ◌≤◌, ℕ, Bool, true, false, cond, List, sym, arith}
use Rattle.std.specs.Prelude.{nat_lt}
use Rattle.pe_text.specs.declared.language.Lang.{Lang}
use Rattle.pe_text.specs.declared.language.Lang.TheVariants.{Rtl, Netlist, Upf, Liberty, Map}
use Rattle.pe_text.specs.declared.nesting.Nest.{Nest}
use Rattle.pe_text.specs.declared.token.Token.{Token}
use Rattle.pe_text.specs.declared.token.Kind.TheVariants.{Word}
use Rattle.pe_base.specs.Names.{has_name}
use Rattle.pe_text.specs.Nesting.{operators, behind_bytes, open_at, is_too_deep, nest_behind}
use Rattle.pe_text.proofs.Firsts.{first_behind}
use Rattle.pe_text.proofs.nesting.first_too_deep.Goals as goal

run_or_none : (b : Bool) (n : ℕ) → cond b (n + 1) 0 ≤ n + 1
run_or_none true n = omega arith
run_or_none false n = omega arith

-- a token adds one operator at most
one_more : (language : Lang) (n : Nest) (bytes : List ℕ) → (behind_bytes language n bytes).run ≤ n.run + 1
one_more Rtl n bytes = run_or_none (has_name operators bytes) n.run
one_more Netlist n bytes = run_or_none (has_name operators bytes) n.run
one_more Upf n bytes = omega arith
one_more Liberty n bytes = omega arith
one_more Map n bytes = omega arith

pub loop-i-preserved : goal.loop-i-preserved
loop-i-preserved c =
    let d : Token = record { kind = Word; span = record { from = 0; to = 0 } } in
    let few : open_at c.args.lang c.loop-i.nest c.bytes_of.result.now ≤ 64 = rw (sym c.behind-next.ensures) c.if-next-nest-gt-MOST_OPEN.false in
    let fits : nat_lt 64 (open_at c.args.lang c.loop-i.nest c.bytes_of.result.now) ≡ false = search rules in
    let run = one_more c.args.lang c.loop-i.nest c.bytes_of.result.now in
    rw c.behind-next.ensures (record {
      first = rw c.bytes_of.ensures (first_behind (is_too_deep c.args.lang) (nest_behind c.args.lang) _ c.loop-i.nest c.args.text.now c.args.tokens.now c.loop-i.i d c.loop-i-test.true (rw c.bytes_of.ensures at fits) c.loop-i.invariant.first);
      few = omega arith;
      short = omega arith;
    })
