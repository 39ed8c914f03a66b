-- The tokens of a text are terminals of the grammars.
use Rattle.std.proofs.Common.{ℕ, suc, ◌<◌, Bool, true, false, List, [], ◌∷◌, arith}
use Rattle.std.proofs.lemmas.List.Elements.{All-cons, All-nil}
use Rattle.std.specs.Prelude.{if◌then◌else◌, eqb, slice_index}
use Rattle.pe_text.specs.declared.token.Kind.{Kind}
use Rattle.pe_text.specs.declared.token.Kind.TheVariants.{Word, Number}
use Rattle.pe_text.specs.declared.token.Token.{Token as Piece}
use Rattle.pe_bool_expr.specs.declared.style.Style.{Style}
use Rattle.pe_bool_expr.specs.declared.style.Style.TheVariants.{Liberty, Upf}
use Rattle.pe_bool_expr.specs.Terminals.{liberty_mark, upf_mark, is_zero, liberty_terminal, upf_terminal, terminal_of, terminals_from, bytes_of}
use Rattle.pe_bool_expr.proofs.Scanning.{AreTerminals}

either : (b : Bool) (x y : ℕ) → x < 12 → y < 12 → (if b then x else y) < 12
either true x y p q = p
either false x y p q = q

liberty_mark_low : (b : ℕ) → liberty_mark b < 12
liberty_mark_low b =
    either (eqb b 43) _ _ (omega arith)
    (either (eqb b 124) _ _ (omega arith)
    (either (eqb b 42) _ _ (omega arith)
    (either (eqb b 38) _ _ (omega arith)
    (either (eqb b 94) _ _ (omega arith)
    (either (eqb b 33) _ _ (omega arith)
    (either (eqb b 39) _ _ (omega arith)
    (either (eqb b 40) _ _ (omega arith) (omega arith))))))))

upf_mark_low : (b c : ℕ) → upf_mark b c < 12
upf_mark_low b c =
    either (eqb b 33) _ _ (omega arith)
    (either (eqb b 126) _ _ (omega arith)
    (either (eqb b 38) _ _ (either (eqb c 38) _ _ (omega arith) (omega arith))
    (either (eqb b 94) _ _ (omega arith)
    (either (eqb b 124) _ _ (either (eqb c 124) _ _ (omega arith) (omega arith))
    (either (eqb b 40) _ _ (omega arith) (omega arith))))))

liberty_low : (kind : Kind) (bytes : List ℕ) → liberty_terminal kind bytes < 12
liberty_low Word bytes = omega arith
liberty_low Number bytes = either (is_zero bytes) _ _ (omega arith) (omega arith)
liberty_low _ bytes = liberty_mark_low (slice_index bytes 0)

upf_low : (kind : Kind) (bytes : List ℕ) → upf_terminal kind bytes < 12
upf_low Word bytes = omega arith
upf_low Number bytes = either (is_zero bytes) _ _ (omega arith) (omega arith)
upf_low _ bytes = upf_mark_low (slice_index bytes 0) (slice_index bytes 1)

terminal_low : (style : Style) (kind : Kind) (bytes : List ℕ) → terminal_of style kind bytes < 12
terminal_low Liberty kind bytes = liberty_low kind bytes
terminal_low Upf kind bytes = upf_low kind bytes

pub are_terminals : (style : Style) (text : List ℕ) (n : ℕ) (tokens : List Piece) → AreTerminals (terminals_from style text n tokens)
are_terminals style text n [] = All-nil (λ t. t.kind < 12)
are_terminals style text n (t ∷ ts) = All-cons (λ t. t.kind < 12) _ (terminals_from style text (suc n) ts) (terminal_low style t.kind (bytes_of text t)) (are_terminals style text (suc n) ts)
