-- Lists that are gone over place by place.
use Rattle.std.proofs.Common.{◌≡◌, inl, inr, ℕ, zero, suc, ◌+◌, ◌<◌, Bool, List, [], ◌∷◌, ◌++◌, length, map, get_or, take, drop, Option, Some, None, refl, ap, sym, ◌∙◌, subst, arith}
use Rattle.std.specs.Prelude.{find}
use Rattle.std.specs.List.{All, AllZip, flat_map}
use Rattle.std.specs.Option.{option_map, option_or}
use Rattle.std.proofs.lemmas.List.{take_more, at_drop_more, map-append}
use Rattle.std.proofs.lemmas.List.Elements.{All-cons}
use Rattle.std.proofs.lemmas.List.Folds.{find-append}
use Rattle.pe_bool_expr.specs.declared.expr.Expr.{Expr}
use Rattle.pe_bool_expr.specs.declared.style.Style.TheVariants.{Upf}
use Rattle.pe_bool_expr.specs.Reading.{IsFunction}
use Rattle.pe_supply.specs.declared.plan.RowText.{RowText}
use Rattle.pe_supply.specs.declared.plan.SwitchText.{SwitchText}
use Rattle.pe_supply.specs.declared.supplies.Switch.{Switch}
use Rattle.pe_supply.specs.Building.{controls_of, IsRead, AreRead, IsRefusedSwitch, IsFirstRefused, IsSwitchOf}

zip_push : {A B : Type 0} (R : A → B → Type 0) (xs : List A) (ys : List B) (x : A) (y : B) → AllZip R xs ys → R x y → AllZip R (xs ++ x ∷ []) (ys ++ y ∷ [])
zip_push R [] [] x y h r = (r, tt)
zip_push R [] (z ∷ zs) x y h r = absurd h
zip_push R (w ∷ ws) [] x y h r = absurd h
zip_push R (w ∷ ws) (z ∷ zs) x y h r = (h.0, zip_push R ws zs x y h.1 r)

-- one place more
pub zip_step : {A B : Type 0} (R : A → B → Type 0) (xs : List A) (ys : List B) (i : ℕ) (x : A) (y : B) → i < length xs → x ≡ get_or xs i x → AllZip R (take i xs) ys → R x y → AllZip R (take (i + 1) xs) (ys ++ y ∷ [])
zip_step R xs ys i x y l is h r =
    let taken : take (i + 1) xs ≡ take i xs ++ x ∷ [] = take_more xs i x l ∙ ap (λ v. take i xs ++ v ∷ []) (sym is) in
    subst (λ zs. AllZip R zs (ys ++ y ∷ [])) (sym taken) (zip_push R (take i xs) ys x y h r)

pub map_step : {A B : Type 0} (f : A → B) (xs : List A) (ys : List B) (i : ℕ) (x : A) → i < length xs → x ≡ get_or xs i x → ys ≡ map f (take i xs) → ys ++ f x ∷ [] ≡ map f (take (i + 1) xs)
map_step f xs ys i x l is e =
    let taken : take (i + 1) xs ≡ take i xs ++ x ∷ [] = take_more xs i x l ∙ ap (λ v. take i xs ++ v ∷ []) (sym is) in
    ap (λ zs. zs ++ f x ∷ []) e ∙ sym (map-append f (take i xs) (x ∷ [])) ∙ ap (map f) (sym taken)

-- functions were read
zip_read : (names texts : List (List ℕ)) (es : List Expr) → AllZip (IsFunction Upf names) texts es → All (IsRead names) texts
zip_read names [] [] h = λ k d l. absurd (omega arith)
zip_read names [] (e ∷ es) h = absurd h
zip_read names (t ∷ ts) [] h = absurd h
zip_read names (t ∷ ts) (e ∷ es) h = All-cons (IsRead names) t ts (e, h.0) (zip_read names ts es h.1)

switch_read : (names : List (List ℕ × ℕ)) (text : SwitchText) (w : Switch) → IsSwitchOf names text w → AreRead text
switch_read names text w h = ((w.on, h.on), zip_read (controls_of text) text.off w.off h.off)

pub all_read : (names : List (List ℕ × ℕ)) (texts : List SwitchText) (ws : List Switch) → AllZip (IsSwitchOf names) texts ws → All AreRead texts
all_read names [] [] h = λ k d l. absurd (omega arith)
all_read names [] (w ∷ ws) h = absurd h
all_read names (t ∷ ts) [] h = absurd h
all_read names (t ∷ ts) (w ∷ ws) h = All-cons AreRead t ts (switch_read names t w h.0) (all_read names ts ws h.1)

-- behind switches that were read one is refused
pub first_refused : (names : List (List ℕ × ℕ)) (texts : List SwitchText) (ws : List Switch) (i : ℕ) (w : SwitchText) (name : List ℕ) → i < length texts → w ≡ get_or texts i w → AllZip (IsSwitchOf names) (take i texts) ws → IsRefusedSwitch w → name ≡ w.name
    → IsFirstRefused texts name
first_refused names [] ws i w name l is h r e = absurd (omega arith)
first_refused names (t ∷ ts) ws zero w name l is h r e = inl (subst IsRefusedSwitch is r, e ∙ ap (λ v. v.name) is)
first_refused names (t ∷ ts) [] (suc i) w name l is h r e = absurd h
first_refused names (t ∷ ts) (v ∷ vs) (suc i) w name l is h r e = inr (switch_read names t v h.0, first_refused names ts vs i w name (omega arith) is h.1 r e)

-- what is found in the first of pieces, and what behind it
some_of : (o rest : Option (ℕ × List ℕ)) (word : List ℕ) → Some word ≡ option_map (λ c. c.1) o → option_map (λ c. c.1) (option_or o rest) ≡ Some word
some_of None rest word e = cc
some_of (Some c) rest word e = sym e

none_of : (o rest : Option (ℕ × List ℕ)) → None ≡ option_map (λ c. c.1) o → option_map (λ c. c.1) (option_or o rest) ≡ option_map (λ c. c.1) rest
none_of None rest e = refl
none_of (Some c) rest e = cc

module _ (t : ℕ × List ℕ → Bool) (f : RowText → List (ℕ × List ℕ)) (rows : List RowText) (i : ℕ) (row : RowText) (l : i < length rows) (is : row ≡ get_or rows i row) where
  split : find t (flat_map f (drop i rows)) ≡ option_or (find t (f row)) (find t (flat_map f (drop (i + 1) rows)))
  split =
      at_drop_more (λ rs. find t (flat_map f rs)) rows i row l ∙ ap (λ r. find t (f r ++ flat_map f (drop (i + 1) rows))) (sym is) ∙ find-append t (f row) (flat_map f (drop (i + 1) rows))

  pub found_here : (word : List ℕ) → Some word ≡ option_map (λ c. c.1) (find t (f row)) → option_map (λ c. c.1) (find t (flat_map f (drop i rows))) ≡ Some word
  found_here word e = ap (option_map (λ c. c.1)) split ∙ some_of (find t (f row)) (find t (flat_map f (drop (i + 1) rows))) word e

  pub found_on : None ≡ option_map (λ c. c.1) (find t (f row)) → option_map (λ c. c.1) (find t (flat_map f (drop i rows))) ≡ option_map (λ c. c.1) (find t (flat_map f (drop (i + 1) rows)))
  found_on e = ap (option_map (λ c. c.1)) split ∙ none_of (find t (f row)) (find t (flat_map f (drop (i + 1) rows))) e
