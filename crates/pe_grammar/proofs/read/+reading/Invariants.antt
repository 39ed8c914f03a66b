use Rattle.std.proofs.Common.{◌≡◌, ◌≤◌, ◌+◌, ◌*◌, ℕ, length, List, []}
use Rattle.std.specs.Prelude.{map}
use Rattle.pe_grammar.specs.declared.terminal.Token.{Token}
use Rattle.pe_grammar.specs.Derivation.{Derivation, derivation, repeated, done, heads}
use Rattle.pe_grammar.specs.Table.{rank}
use Rattle.pe_grammar.specs.Reading.{Reads, IsRefused, ReadsOnce, IsRefusedOnce}
use Rattle.pe_grammar.proofs.read.+reading.Given as goal

abbrev pub decreases-read : goal.decreases-read
decreases-read l = (length l.tokens.now * 65536 + rank l.grammar.now l.form) * 2 + 1

abbrev pub decreases-repeat : goal.decreases-repeat
decreases-repeat l = (length l.tokens.now * 65536 + rank l.grammar.now l.form) * 2

abbrev pub invariant-repeat-items : goal.invariant-repeat-items
invariant-repeat-items l = record {
  fewer : length l.left ≤ length l.tokens;
  read : (e : Derivation) (rest : List Token) → Reads l.grammar l.form l.left e rest → Reads l.grammar l.form l.tokens (repeated (map derivation l.items) e) rest;
  refused : (k : ℕ) → IsRefused l.grammar l.form l.left k → IsRefused l.grammar l.form l.tokens k;
}

abbrev pub decreases-repeat-items : goal.decreases-repeat-items
decreases-repeat-items l = length l.left

abbrev pub decreases-read_once : goal.decreases-read_once
decreases-read_once l = (length l.tokens.now * 65536 + rank l.grammar.now l.form) * 2

abbrev pub invariant-read_once-items : goal.invariant-read_once-items
invariant-read_once-items l = record {
  fewer : length l.left ≤ length l.tokens;
  kinds : heads (repeated (map derivation l.items) done) ≡ l.used;
  read : (e : Derivation) (rest : List Token) → ReadsOnce l.grammar l.form l.set l.used l.left e rest → ReadsOnce l.grammar l.form l.set [] l.tokens (repeated (map derivation l.items) e) rest;
  refused : (k : ℕ) → IsRefusedOnce l.grammar l.form l.set l.used l.left k → IsRefusedOnce l.grammar l.form l.set [] l.tokens k;
}

abbrev pub decreases-read_options : goal.decreases-read_options
decreases-read_options l = (length l.tokens.now * 65536 + rank l.grammar.now l.form) * 2

abbrev pub decreases-read_once-items : goal.decreases-read_once-items
decreases-read_once-items l = length l.left
