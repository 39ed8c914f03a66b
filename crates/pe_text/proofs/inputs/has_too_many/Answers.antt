use Rattle.std.specs.Prelude.{codes}
use Rattle.std.specs.Str.{bytes_eq}
use Rattle.std.proofs.Common.{◌≡◌, ◌+◌, ◌-◌, cond, ◌≤◌, ℕ, Bool, true, false, List, [], ◌++◌, sym, ◌∙◌, arith, drop}
use Rattle.pe_text.specs.declared.token.Token.{Token}
use Rattle.pe_text.specs.declared.token.Kind.TheVariants.{Word}
use Rattle.pe_text.specs.Lexemes.{lexemes_of}
use Rattle.pe_text.specs.Inputs.{names_of, names_in, inside, closes_last, braces_behind}
use Rattle.pe_text.proofs.InputNames.{inside_step, inside_end, found_more, too_many, not_too_many}
use Rattle.pe_text.proofs.inputs.has_too_many.Goals as goal

step_of : (open_brace close_brace : Bool) (n i : ℕ) → n ≤ i → cond open_brace (n + 1) (cond close_brace (n - 1) n) ≤ i + 1
step_of true b n i le = omega arith
step_of false true n i le = omega arith
step_of false false n i le = omega arith

-- a token opens one brace at most
shallow : (n i : ℕ) (bytes : List ℕ) → n ≤ i → braces_behind n bytes ≤ i + 1
shallow n i bytes le = step_of (bytes_eq bytes (codes "{")) (bytes_eq bytes (codes "}")) n i le

pub loop-token-preserved : goal.loop-token-preserved
loop-token-preserved c =
    let d : Token = record { kind = Word; span = record { from = 0; to = 0 } } in
    let h = c.loop-token.invariant.found in
    let e : closes_last c.loop-token.braces c.bytes_of-bytes.result.now ≡ false = sym c.closes_last.ensures ∙ c.if-closes_last.false in
    let step : names_in (inside c.loop-token.braces (lexemes_of c.args.text.now (drop c.loop-token.token-index c.args.tokens.now)))
    ≡ names_of c.bytes_of-bytes.result.now ++ names_in (inside (braces_behind c.loop-token.braces c.bytes_of-bytes.result.now) (lexemes_of c.args.text.now (drop (c.loop-token.token-index + 1) c.args.tokens.now)))
    = rw c.bytes_of-bytes.ensures (inside_step c.args.text.now c.args.tokens.now c.loop-token.token-index d c.loop-token.braces c.loop-token-test.true (rw c.bytes_of-bytes.ensures at e)) in
    let more = found_more (names_in (inside 0 (lexemes_of c.args.text.now c.args.tokens.now))) [] c.loop-token.names c.add_names.new.names c.loop-token.count c.in_ok-count.field-0 h.0 (names_of c.bytes_of-bytes.result.now) _ _ h.1 c.in_ok-count.ensures.added h.2 step in
    record {
      few = c.if-count-gt-MOST_INPUTS.false;
      shallow = rw c.braces_behind-braces.ensures (shallow c.loop-token.braces c.loop-token.token-index c.bytes_of-bytes.result.now c.loop-token.invariant.shallow);
      found = rw c.braces_behind-braces.ensures more;
    }

pub returns-then-count-gt-MOST_INPUTS : goal.returns-then-count-gt-MOST_INPUTS
returns-then-count-gt-MOST_INPUTS c =
    let d : Token = record { kind = Word; span = record { from = 0; to = 0 } } in
    let h = c.loop-token.invariant.found in
    let e : closes_last c.loop-token.braces c.bytes_of-bytes.result.now ≡ false = sym c.closes_last.ensures ∙ c.if-closes_last.false in
    let step : names_in (inside c.loop-token.braces (lexemes_of c.args.text.now (drop c.loop-token.token-index c.args.tokens.now)))
    ≡ names_of c.bytes_of-bytes.result.now ++ names_in (inside (braces_behind c.loop-token.braces c.bytes_of-bytes.result.now) (lexemes_of c.args.text.now (drop (c.loop-token.token-index + 1) c.args.tokens.now)))
    = rw c.bytes_of-bytes.ensures (inside_step c.args.text.now c.args.tokens.now c.loop-token.token-index d c.loop-token.braces c.loop-token-test.true (rw c.bytes_of-bytes.ensures at e)) in
    let more = found_more (names_in (inside 0 (lexemes_of c.args.text.now c.args.tokens.now))) [] c.loop-token.names c.add_names.new.names c.loop-token.count c.in_ok-count.field-0 h.0 (names_of c.bytes_of-bytes.result.now) _ _ h.1 c.in_ok-count.ensures.added h.2 step in
    too_many _ c.add_names.new.names more.0 _ 10 (c.loop-token.count + c.in_ok-count.field-0) more.1 more.2 c.if-count-gt-MOST_INPUTS.true

pub returns-then-closes_last : goal.returns-then-closes_last
returns-then-closes_last c =
    let d : Token = record { kind = Word; span = record { from = 0; to = 0 } } in
    let h = c.loop-token.invariant.found in
    let e : closes_last c.loop-token.braces c.bytes_of-bytes.result.now ≡ true = sym c.closes_last.ensures ∙ c.if-closes_last.true in
    let last = inside_end c.args.text.now c.args.tokens.now c.loop-token.token-index d c.loop-token.braces c.loop-token-test.true (rw c.bytes_of-bytes.ensures at e) in
    not_too_many _ c.loop-token.names h.0 _ 10 c.loop-token.count h.1 h.2 last c.loop-token.invariant.few
