-- Items and faults that are added one behind the other.
use Rattle.std.proofs.Common.{◌≡◌, List, [], ◌∷◌, ◌++◌, refl, sym, ap, ◌∙◌, subst, append_assoc, append-nil}
use Rattle.std.specs.List.{AllZip}
use Rattle.pe_cells.specs.declared.form.Found.{Found}
use Rattle.pe_cells.specs.Functions.{Use, AreJudged, Judges, Adds}

pub front_nil : {A : Type 0} (xs ys : List A) → xs ++ ys ≡ [] → xs ≡ []
front_nil [] ys h = refl
front_nil (x ∷ xs) ys h = cc

pub AllZip-append : {A B : Type 0} (R : A → B → Type 0) (xs ys : List A) (us vs : List B) → AllZip R xs us → AllZip R ys vs → AllZip R (xs ++ ys) (us ++ vs)
AllZip-append R [] ys [] vs p q = q
AllZip-append R [] ys (u ∷ us) vs p q = absurd p
AllZip-append R (x ∷ xs) ys [] vs p q = absurd p
AllZip-append R (x ∷ xs) ys (u ∷ us) vs p q = (p.0, AllZip-append R xs ys us vs p.1 q)

pub judged-append : (us vs : List Use) (fs gs : List Found) → AreJudged us fs → AreJudged vs gs → AreJudged (us ++ vs) (fs ++ gs)
judged-append [] vs fs gs p q = subst (λ x. AreJudged vs (x ++ gs)) (sym p) q
judged-append (u ∷ us) vs fs gs p q = (p.0, p.1 ++ gs, ap (λ x. x ++ gs) p.2 ∙ append_assoc p.0 p.1 gs, p.3, judged-append us vs p.1 gs p.4 q)

-- no function adds no fault
pub judges_none : (fs : List Found) → Judges [] fs fs
judges_none fs = record { faults = []; judged = refl; added = sym (append-nil fs) }

pub judges_more : (us vs : List Use) (a b c : List Found) → Judges us a b → Judges vs b c → Judges (us ++ vs) a c
judges_more us vs a b c p q = record {
  faults = p.faults ++ q.faults;
  judged = judged-append us vs p.faults q.faults p.judged q.judged;
  added = q.added ∙ ap (λ x. x ++ q.faults) p.added ∙ append_assoc a p.faults q.faults;
}

-- where no fault is there, none was there before
pub none_before : (us : List Use) (a b : List Found) → Judges us a b → b ≡ [] → a ≡ []
none_before us a b p e = front_nil a p.faults (sym p.added ∙ e)

pub adds_none : {A B : Type 0} (R : A → B → Type 0) (bs : List B) → Adds A B R [] bs bs
adds_none R bs = record { more = []; are = tt; added = sym (append-nil bs) }

pub adds_more : {A B : Type 0} (R : A → B → Type 0) (xs ys : List A) (a b c : List B) → Adds A B R xs a b → Adds A B R ys b c → Adds A B R (xs ++ ys) a c
adds_more R xs ys a b c p q = record {
  more = p.more ++ q.more;
  are = AllZip-append R xs ys p.more q.more p.are q.are;
  added = q.added ∙ ap (λ x. x ++ q.more) p.added ∙ append_assoc a p.more q.more;
}

pub adds_one : {A B : Type 0} (R : A → B → Type 0) (x : A) (b : B) (old new : List B) → R x b → new ≡ old ++ b ∷ [] → Adds A B R (x ∷ []) old new
adds_one R x b old new r e = record { more = b ∷ []; are = (r, tt); added = e }

-- what was added to nothing is all there is
pub adds_all : {A B : Type 0} (R : A → B → Type 0) (xs : List A) (old new : List B) → old ≡ [] → Adds A B R xs old new → AllZip R xs new
adds_all R xs old new e p = subst (λ x. AllZip R xs x) (sym (p.added ∙ ap (λ x. x ++ p.more) e)) p.are
