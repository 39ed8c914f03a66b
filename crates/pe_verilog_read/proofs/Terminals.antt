-- Trees that are no terminals.
use Rattle.std.proofs.Common.{◌≡◌, List, [], ◌∷◌, refl, ap, sym, ◌∙◌}
use Rattle.pe_grammar.specs.declared.terminal.Token.{Token}
use Rattle.pe_grammar.specs.declared.tree.Tree.{Tree}
use Rattle.pe_grammar.specs.declared.tree.Tree.TheVariants.{Pair, Repeat, Present}
use Rattle.pe_grammar.specs.Derivation.{derivation, repeated, done}
use Rattle.pe_grammar.proofs.Trees.{derivation-Pair, derivation-Repeat, derivation-Present}
use Rattle.std.specs.Prelude.{map}
use Rattle.pe_verilog_read.specs.Leaves.{token_of}

abbrev pub no_token : Token
no_token = record { kind = 0; place = 0 }

pub of_pair : (t : Tree) (p : Tree × Tree) (r : Token) → r ≡ no_token → t ≡ Pair p → r ≡ token_of (derivation t)
of_pair t p r q e = q ∙ sym (ap token_of (ap derivation e ∙ derivation-Pair p.0 p.1))

pub of_present : (t : Tree) (p : Token × Tree) (r : Token) → r ≡ no_token → t ≡ Present p → r ≡ token_of (derivation t)
of_present t p r q e = q ∙ sym (ap token_of (ap derivation e ∙ derivation-Present p.0 p.1))

none_repeated : (ts : List Tree) → token_of (repeated (map derivation ts) done) ≡ no_token
none_repeated [] = refl
none_repeated (t ∷ ts) = refl

pub of_repeat : (t : Tree) (ts : List Tree) (r : Token) → r ≡ no_token → t ≡ Repeat ts → r ≡ token_of (derivation t)
of_repeat t ts r q e = q ∙ sym (ap token_of (ap derivation e ∙ derivation-Repeat ts) ∙ none_repeated ts)
