-- The first tie of each port, and what it says of later ties.
use Rattle.std.proofs.Common.{◌≡◌, ℕ, suc, ◌+◌, ◌<◌, Bool, true, false, cond, not, ◌&&◌, ◌||◌, List, [], ◌∷◌, ◌++◌, length, length-append, get_or, take, drop, Bor, Option, Some, None, refl, ap, sym, ◌∙◌, arith}
use Rattle.std.specs.Prelude.{slice_get}
use Rattle.std.specs.List.{list_any}
use Rattle.std.specs.Option.{option_map_or, option_or}
use Rattle.std.specs.Str.{bytes_eq}
use Rattle.std.proofs.lemmas.Bool.{false≢true, not-true, not-false}
use Rattle.std.proofs.lemmas.List.{take_more, at_drop_more}
use Rattle.std.proofs.lemmas.List.Folds.{list_any-append}
use Rattle.pe_base.specs.Names.{has_name, place_of, HasSameNames}
use Rattle.pe_supply.specs.Drivers.{are_two, is_elsewhere, first_elsewhere}
use Rattle.pe_supply.proofs.Naming.{same_bytes}

-- the net that is kept for a port
abbrev net_of : List (List ℕ) → List (Bor (List ℕ)) → List ℕ → Option (Bor (List ℕ))
net_of ports firsts port = slice_get firsts (place_of ports port)

-- a net of another name is kept
abbrev is_other : Option (Bor (List ℕ)) → List ℕ → Bool
is_other kept net = option_map_or (λ (first : Bor (List ℕ)). not (bytes_eq first.now net)) kept false

-- for each port of the ties a net is kept, and a further tie is one of two exactly where its net has another name
pub record AreKept (earlier : List (List ℕ × List ℕ)) (ports : List (List ℕ)) (firsts : List (Bor (List ℕ))) : Type 0 where
  pub size : length ports ≡ length firsts
  pub two : (tie : List ℕ × List ℕ) → list_any (are_two tie) earlier ≡ is_other (net_of ports firsts tie.0) tie.1

-- a port more, with its net
push_by : (b : Bool) (y : Bor (List ℕ)) (ys : List (Bor (List ℕ))) (n : Bor (List ℕ)) (p q : ℕ) (rest : Option (Bor (List ℕ))) → slice_get (ys ++ n ∷ []) q ≡ option_or (slice_get ys p) rest
    → slice_get (y ∷ (ys ++ n ∷ [])) (cond b 0 (1 + q)) ≡ option_or (slice_get (y ∷ ys) (cond b 0 (1 + p))) rest
push_by true y ys n p q rest e = refl
push_by false y ys n p q rest e = let one : 1 + p ≡ suc p = omega arith in let two : 1 + q ≡ suc q = omega arith in rw (one, two) e

last_by : (b : Bool) (n : Bor (List ℕ)) → slice_get (n ∷ []) (cond b 0 (1 + 0)) ≡ cond b (Some n) None
last_by true n = refl
last_by false n = refl

net_push : (ports : List (List ℕ)) (firsts : List (Bor (List ℕ))) (port : List ℕ) (n : Bor (List ℕ)) (q : List ℕ) → length ports ≡ length firsts
    → net_of (ports ++ port ∷ []) (firsts ++ n ∷ []) q ≡ option_or (net_of ports firsts q) (cond (bytes_eq port q) (Some n) None)
net_push [] [] port n q e = last_by (bytes_eq port q) n
net_push [] (y ∷ ys) port n q e = absurd (omega arith)
net_push (x ∷ xs) [] port n q e = absurd (omega arith)
net_push (x ∷ xs) (y ∷ ys) port n q e =
    let long : length xs ≡ length ys = omega arith in
    push_by (bytes_eq x q) y ys n (place_of xs q) (place_of (xs ++ port ∷ []) q) (cond (bytes_eq port q) (Some n) None) (net_push xs ys port n q long)

-- a port that is new has none, and another has one
none_by : (b h : Bool) (y : Bor (List ℕ)) (ys : List (Bor (List ℕ))) (p : ℕ) → (b || h) ≡ false → (h ≡ false → slice_get ys p ≡ None) → slice_get (y ∷ ys) (cond b 0 (1 + p)) ≡ None
none_by true h y ys p e more = absurd (false≢true (sym e))
none_by false h y ys p e more = let one : 1 + p ≡ suc p = omega arith in rw one (more e)

net_none : (ports : List (List ℕ)) (firsts : List (Bor (List ℕ))) (q : List ℕ) → length ports ≡ length firsts → has_name ports q ≡ false → net_of ports firsts q ≡ None
net_none [] [] q e h = refl
net_none [] (y ∷ ys) q e h = absurd (omega arith)
net_none (x ∷ xs) [] q e h = absurd (omega arith)
net_none (x ∷ xs) (y ∷ ys) q e h = let long : length xs ≡ length ys = omega arith in none_by (bytes_eq x q) (has_name xs q) y ys (place_of xs q) h (net_none xs ys q long)

some_by : (b h : Bool) (y : Bor (List ℕ)) (ys : List (Bor (List ℕ))) (p : ℕ) → (b || h) ≡ true → (h ≡ true → (n : Bor (List ℕ)) × (slice_get ys p ≡ Some n)) → (n : Bor (List ℕ)) × (slice_get (y ∷ ys) (cond b 0 (1 + p)) ≡ Some n)
some_by true h y ys p e more = (y, refl)
some_by false h y ys p e more = let one : 1 + p ≡ suc p = omega arith in let r = more e in (r.0, rw one r.1)

net_some : (ports : List (List ℕ)) (firsts : List (Bor (List ℕ))) (q : List ℕ) → length ports ≡ length firsts → has_name ports q ≡ true → (n : Bor (List ℕ)) × (net_of ports firsts q ≡ Some n)
net_some [] firsts q e h = absurd (false≢true h)
net_some (x ∷ xs) [] q e h = absurd (omega arith)
net_some (x ∷ xs) (y ∷ ys) q e h = let long : length xs ≡ length ys = omega arith in some_by (bytes_eq x q) (has_name xs q) y ys (place_of xs q) h (net_some xs ys q long)

or_none : (b : Bool) → (b || false) ≡ b
or_none true = refl
or_none false = refl

-- a tie more, of a port that is new
new_by : (b : Bool) (o : Option (Bor (List ℕ))) (n : Bor (List ℕ)) (net other : List ℕ) → n.now ≡ net → (b ≡ true → o ≡ None) → (is_other o other || ((b && not (bytes_eq net other)) || false)) ≡ is_other (option_or o (cond b (Some n) None)) other
new_by true None n net other e h = or_none (not (bytes_eq net other)) ∙ ap (λ x. not (bytes_eq x other)) (sym e)
new_by true (Some m) n net other e h = let z : Some m ≡ None = h refl in cc
new_by false None n net other e h = refl
new_by false (Some m) n net other e h = or_none (not (bytes_eq m.now other))

kept_new : (earlier : List (List ℕ × List ℕ)) (ports : List (List ℕ)) (firsts : List (Bor (List ℕ))) (tie : List ℕ × List ℕ) (n : Bor (List ℕ)) → AreKept earlier ports firsts → has_name ports tie.0 ≡ false → n.now ≡ tie.1
    → AreKept (earlier ++ tie ∷ []) (ports ++ tie.0 ∷ []) (firsts ++ n ∷ [])
kept_new earlier ports firsts tie n k h e = record {
  size = long;
  two = λ q.
      list_any-append (are_two q) earlier (tie ∷ [])
      ∙ ap (λ b. b || (are_two q tie || false)) (k.two q)
      ∙ new_by (bytes_eq tie.0 q.0) (net_of ports firsts q.0) n tie.1 q.1 e (λ same. ap (net_of ports firsts) (sym (same_bytes tie.0 q.0 same)) ∙ net_none ports firsts tie.0 k.size h)
      ∙ ap (λ o. is_other o q.1) (sym (net_push ports firsts tie.0 n q.0 k.size));
}
  where
    long : length (ports ++ tie.0 ∷ []) ≡ length (firsts ++ n ∷ [])
    long = simp length-append (omega (arith, k.size))

-- and one of a port that was there, to a net of the same name
old_by : (b : Bool) (o : Option (Bor (List ℕ))) (n : Bor (List ℕ)) (net other : List ℕ) → n.now ≡ net → (b ≡ true → o ≡ Some n) → (is_other o other || ((b && not (bytes_eq net other)) || false)) ≡ is_other o other
old_by true None n net other e h = let z : None ≡ Some n = h refl in cc
old_by true (Some m) n net other e h =
    let same : m ≡ n = let z : Some m ≡ Some n = h refl in cc in
    ap (λ x. not (bytes_eq m.now other) || ((true && not (bytes_eq x other)) || false)) (sym e ∙ ap (λ (x : Bor (List ℕ)). x.now) (sym same)) ∙ twice (not (bytes_eq m.now other))
  where
    twice : (c : Bool) → (c || ((true && c) || false)) ≡ c
    twice true = refl
    twice false = refl
old_by false o n net other e h = or_none (is_other o other)

not_other : (o : Option (Bor (List ℕ))) (n : Bor (List ℕ)) (net : List ℕ) → o ≡ Some n → is_other o net ≡ false → n.now ≡ net
not_other o n net e h = at (bytes_eq n.now net) refl (sym (ap (λ x. is_other x net) e) ∙ h)
  where
    at : (c : Bool) → bytes_eq n.now net ≡ c → not (bytes_eq n.now net) ≡ false → n.now ≡ net
    at true is k = same_bytes n.now net is
    at false is k = absurd (false≢true (sym k ∙ ap not is))

kept_old : (earlier : List (List ℕ × List ℕ)) (ports : List (List ℕ)) (firsts : List (Bor (List ℕ))) (tie : List ℕ × List ℕ) → AreKept earlier ports firsts → has_name ports tie.0 ≡ true → list_any (are_two tie) earlier ≡ false
    → AreKept (earlier ++ tie ∷ []) ports firsts
kept_old earlier ports firsts tie k h none =
    let r = net_some ports firsts tie.0 k.size h in
    let is : r.0.now ≡ tie.1 = not_other (net_of ports firsts tie.0) r.0 tie.1 r.1 (sym (k.two tie) ∙ none) in
    record {
      size = k.size;
      two = λ q.
          list_any-append (are_two q) earlier (tie ∷ [])
          ∙ ap (λ b. b || (are_two q tie || false)) (k.two q)
          ∙ old_by (bytes_eq tie.0 q.0) (net_of ports firsts q.0) r.0 tie.1 q.1 is (λ same. ap (net_of ports firsts) (sym (same_bytes tie.0 q.0 same)) ∙ r.1);
    }

-- the test of a tie, by what is kept
pub elsewhere_is : (set nets ports : List (List ℕ)) (firsts shown : List (Bor (List ℕ))) (earlier : List (List ℕ × List ℕ)) (tie : List ℕ × List ℕ) → HasSameNames set nets → AreKept earlier ports firsts → shown ≡ firsts
    → (is_other (net_of ports shown tie.0) tie.1 || (has_name set tie.0 && not (bytes_eq tie.0 tie.1))) ≡ is_elsewhere nets earlier tie
elsewhere_is set nets ports firsts shown earlier tie same k e =
    ap (λ fs. is_other (net_of ports fs tie.0) tie.1 || (has_name set tie.0 && not (bytes_eq tie.0 tie.1))) e
    ∙ ap (λ b. b || (has_name set tie.0 && not (bytes_eq tie.0 tie.1))) (sym (k.two tie)) ∙ ap (λ b. list_any (are_two tie) earlier || (b && not (bytes_eq tie.0 tie.1))) (same tie.0)

or_left_false : (a b : Bool) → (a || b) ≡ false → a ≡ false
or_left_false true b e = absurd (false≢true (sym e))
or_left_false false b e = refl

-- the ties from a place on
module _ (nets : List (List ℕ)) (ties : List (List ℕ × List ℕ)) (i : ℕ) (tie : List ℕ × List ℕ) (l : i < length ties) (is : tie ≡ get_or ties i tie) where
  taken : take (i + 1) ties ≡ take i ties ++ tie ∷ []
  taken = take_more ties i tie l ∙ ap (λ t. take i ties ++ t ∷ []) (sym is)

  step : first_elsewhere nets (take i ties) (drop i ties) ≡ cond (is_elsewhere nets (take i ties) tie) (Some tie.0) (first_elsewhere nets (take (i + 1) ties) (drop (i + 1) ties))
  step =
      at_drop_more (first_elsewhere nets (take i ties)) ties i tie l
      ∙ ap (λ t. first_elsewhere nets (take i ties) (t ∷ drop (i + 1) ties)) (sym is)
      ∙ ap (λ before. cond (is_elsewhere nets (take i ties) tie) (Some tie.0) (first_elsewhere nets before (drop (i + 1) ties))) (sym taken)

  pub found_there : is_elsewhere nets (take i ties) tie ≡ true → first_elsewhere nets (take i ties) (drop i ties) ≡ Some tie.0
  found_there e = step ∙ ap (λ b. cond b (Some tie.0) (first_elsewhere nets (take (i + 1) ties) (drop (i + 1) ties))) e

  pub found_later : is_elsewhere nets (take i ties) tie ≡ false → first_elsewhere nets (take i ties) (drop i ties) ≡ first_elsewhere nets (take (i + 1) ties) (drop (i + 1) ties)
  found_later e = step ∙ ap (λ b. cond b (Some tie.0) (first_elsewhere nets (take (i + 1) ties) (drop (i + 1) ties))) e

  -- what is kept behind a tie of a port that is new, and of one that was there
  pub kept_behind_new : (ports new : List (List ℕ)) (firsts behind : List (Bor (List ℕ))) (n : Bor (List ℕ)) → AreKept (take i ties) ports firsts → not (has_name ports tie.0) ≡ true → new ≡ ports ++ tie.0 ∷ [] → behind ≡ firsts ++ n ∷ [] → n.now ≡ tie.1
      → AreKept (take (i + 1) ties) new behind
  kept_behind_new ports new firsts behind n k h a b e = rw (taken, a, b) (kept_new (take i ties) ports firsts tie n k (not-true (has_name ports tie.0) h) e)

  pub kept_behind_old : (ports new : List (List ℕ)) (firsts behind : List (Bor (List ℕ))) → AreKept (take i ties) ports firsts → not (has_name ports tie.0) ≡ false → new ≡ ports → behind ≡ firsts → is_elsewhere nets (take i ties) tie ≡ false
      → AreKept (take (i + 1) ties) new behind
  kept_behind_old ports new firsts behind k h a b e =
      let one : list_any (are_two tie) (take i ties) ≡ false = or_left_false (list_any (are_two tie) (take i ties)) (has_name nets tie.0 && not (bytes_eq tie.0 tie.1)) e in
      rw (taken, a, b) (kept_old (take i ties) ports firsts tie k (not-false (has_name ports tie.0) h) one)
