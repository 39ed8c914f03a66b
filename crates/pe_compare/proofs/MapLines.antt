-- From the lines of a derivation to those of a map file.
use Rattle.std.proofs.Common.{◌≡◌, ℕ, ◌+◌, ◌<◌, List, [], ◌∷◌, ◌++◌, length, take, get_or, refl, ap, sym, ◌∙◌}
use Rattle.std.proofs.lemmas.List.{take_more}
use Rattle.std.proofs.lemmas.List.Elements.{filter_map-append}
use Rattle.std.specs.List.{cons_option, filter_map}
use Rattle.std.specs.Prelude.{map, Option}
use Rattle.pe_grammar.specs.Derivation.{Derivation, derivation, repeated, done, once}
use Rattle.pe_grammar.specs.declared.tree.Tree.{Tree}
use Rattle.pe_text.specs.declared.token.Token.{Token}
use Rattle.pe_compare.specs.MapMeaning.{line_of, lines_of, map_of}
use Rattle.pe_compare.specs.declared.map.MapFile.{MapFile}
use Rattle.pe_compare.specs.declared.map.MapLine.{MapLine}

-- what a line of a tree says
abbrev pub said : List ℕ → List Token → Tree → Option MapLine
said text tokens t = line_of text tokens (derivation t)

lines_are : (text : List ℕ) (tokens : List Token) (ts : List Tree) → lines_of text tokens (repeated (map derivation ts) done) ≡ filter_map (said text tokens) ts
lines_are text tokens [] = refl
lines_are text tokens (t ∷ ts) = ap (cons_option (said text tokens t)) (lines_are text tokens ts)

-- one line more
pub lines_step : (f : Tree → Option MapLine) (ts : List Tree) (i : ℕ) (x : Tree) (old new : List MapLine) (l : Option MapLine) → i < length ts → x ≡ get_or ts i x
    → old ≡ filter_map f (take i ts) → l ≡ f x → new ≡ old ++ cons_option l [] → new ≡ filter_map f (take (i + 1) ts)
lines_step f ts i x old new l h e p q r =
    r
    ∙ ap (λ xs. xs ++ cons_option l []) p
    ∙ ap (λ y. filter_map f (take i ts) ++ cons_option y []) (q ∙ ap f e)
    ∙ sym (filter_map-append f (take i ts) (get_or ts i x ∷ []))
    ∙ sym (ap (filter_map f) (take_more ts i x h))

-- all lines are those that are repeated
pub map_shape : (text : List ℕ) (tokens : List Token) (d : Derivation) (ts us : List Tree) (lines : List MapLine)
    → d ≡ once (repeated (map derivation ts) done) → us ≡ ts → lines ≡ filter_map (said text tokens) us → ◌≡◌ {A = MapFile} (record { lines = lines }) (map_of text tokens d)
map_shape text tokens d ts us lines p q r =
    let same : lines ≡ lines_of text tokens (repeated (map derivation ts) done) = r ∙ ap (filter_map (said text tokens)) q ∙ sym (lines_are text tokens ts) in
    ap (λ xs. let m : MapFile = record { lines = xs } in m) same ∙ sym (ap (map_of text tokens) p)
