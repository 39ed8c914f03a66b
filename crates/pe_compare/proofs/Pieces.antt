-- Going over the tokens of a map file in order.
use Rattle.std.proofs.Common.{◌≡◌, ℕ, ◌+◌, ◌<◌, List, [], ◌∷◌, ◌++◌, length, get_or, drop, add-one, append_assoc, ap, sym, ◌∙◌}
use Rattle.std.proofs.lemmas.List.{drop_more}
use Rattle.std.specs.Prelude.{◌==◌, Bool}
use Rattle.pe_grammar.specs.declared.terminal.Token.{Token as Terminal}
use Rattle.pe_text.specs.declared.token.Kind.TheVariants.{Word}
use Rattle.pe_text.specs.declared.token.Token.{Token}
use Rattle.pe_compare.specs.MapTerminals.{terminal_of, terminals_from, bytes_of}
use Rattle.pe_compare.specs.declared.map_table.TheConstants.{LINE}

-- what a token past the end is read as
abbrev pub no_token : Token
no_token = record { kind = Word; span = record { from = 0; to = 0 } }

-- one more terminal
pub terminals_step : (text : List ℕ) (is_first : Bool) (i : ℕ) (ts : List Token) (kind place : ℕ) (all next whole : List Terminal) → i < length ts
    → kind ≡ terminal_of is_first (get_or ts i no_token).kind (bytes_of text (get_or ts i no_token)) → place ≡ i
    → whole ≡ all ++ terminals_from text is_first i (drop i ts) → next ≡ all ++ record { kind = kind; place = place } ∷ []
    → whole ≡ next ++ terminals_from text (kind == LINE) (i + 1) (drop (i + 1) ts)
terminals_step text is_first i ts kind place all next whole h p q r s =
    let K = terminal_of is_first (get_or ts i no_token).kind (bytes_of text (get_or ts i no_token)) in
    let rest = λ (k n : ℕ). terminals_from text (k == LINE) n (drop (i + 1) ts) in
    let terminal = λ (k n : ℕ). let t : Terminal = record { kind = k; place = n } in t in
    r
    ∙ ap (λ us. all ++ terminals_from text is_first i us) (drop_more ts i no_token h)
    ∙ ap (λ n. all ++ terminal K i ∷ rest K n) (sym (add-one i))
    ∙ ap (λ k. all ++ terminal k i ∷ rest k (i + 1)) (sym p)
    ∙ ap (λ n. all ++ terminal kind n ∷ rest kind (i + 1)) (sym q)
    ∙ sym (append_assoc all (terminal kind place ∷ []) (rest kind (i + 1)))
    ∙ ap (λ us. us ++ rest kind (i + 1)) (sym s)
