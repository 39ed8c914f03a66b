use Rattle.std.proofs.Common.{◌≡◌, ◌^◌, length, take}
use Rattle.std.specs.Prelude.{min}
use Rattle.pe_base.specs.Words.{value_number}
use Rattle.pe_rail_ops.specs.Rails.{GivesRails, rails_in}
use Rattle.pe_rail_ops.specs.Stages.{shifted_in}
use Rattle.pe_rail_ops.proofs.shifts.staged.Given as goal

abbrev pub invariant-loop-i : goal.invariant-loop-i
invariant-loop-i l = record {
  gives : GivesRails l.fn.graph l.graph (λ v. shifted_in l.fn.direction l.fn.fill (rails_in v l.fn.graph l.a) (value_number (take l.i (rails_in v l.fn.graph l.amount)))) l.word;
  width : length l.word ≡ length l.a;
  step : l.step ≡ min (2 ^ l.i) (length l.a);
}
