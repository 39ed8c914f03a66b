use Rattle.std.proofs.Common.{ℕ, List, [], Bor}
use Rattle.std.proofs.lemmas.List.{drop_all}
use Rattle.pe_verilog_read.proofs.Spellings.{spelling_hit, spelling_miss, spelling_none}
use Rattle.pe_verilog_read.proofs.terminal.terminal_in.Goals as goal

abbrev seen : Bor (List ℕ) × ℕ → List ℕ × ℕ
seen s = (s.0.now, s.1)

pub returns-then-eq : goal.returns-then-eq
returns-then-eq c =
    spelling_hit seen c.args.spellings.now c.loop-spelling.spelling-index (record { ref_ptr = (0, 0); now = [] }, 0) c.args.other c.args.bytes.now c.eq.result c.loop-spelling-test.true c.loop-spelling.invariant c.eq.ensures c.if-eq.true

pub loop-spelling-preserved : goal.loop-spelling-preserved
loop-spelling-preserved c =
    spelling_miss seen c.args.spellings.now c.loop-spelling.spelling-index (record { ref_ptr = (0, 0); now = [] }, 0) c.args.other c.args.bytes.now c.eq.result c.loop-spelling-test.true c.loop-spelling.invariant c.eq.ensures c.if-eq.false

pub returns : goal.returns
returns c = spelling_none seen c.args.spellings.now _ c.args.other c.args.bytes.now (drop_all _ _ c.loop-spelling-test.false) c.loop-spelling.invariant
