-- The law of registers on rails, step by step.
use Rattle.std.proofs.Common.{◌≡◌, ℕ, Bool, true, false, cond, ◌&&◌, ◌||◌, List, refl, ap, ◌∙◌}
use Rattle.pe_base.specs.declared.value.Val.{Val}
use Rattle.pe_base.specs.declared.value.Val.TheVariants.{Zero, One, Corrupt}
use Rattle.pe_base.specs.Values.{known_of, pick_of, merge_of}
use Rattle.pe_base.specs.Words.{is_known}
use Rattle.pe_base.specs.Registers.{kept_of, shadow_of, chosen_of, visible_of, edge_of, next_shadow_of, isolated_of}
use Rattle.pe_base.proofs.RegisterLemmas.{chosen_is}
use Rattle.pe_graph.specs.declared.graph.Node.{Node}
use Rattle.pe_graph.specs.Nodes.{IsIn, value_in, Grows, Gives}
use Rattle.pe_graph.proofs.Growth.{grows_on}
use Rattle.pe_rail_ops.specs.declared.bit.Rail.{Rail}
use Rattle.pe_rail_ops.specs.declared.register.RegisterRails.{RegisterRails}
use Rattle.pe_rail_ops.specs.Registers.{inputs_in, AreInputs}
use Rattle.pe_rail_ops.specs.Rails.{rail_in, IsRail, GivesRail}
use Rattle.pe_rail_ops.proofs.Rails.{rail_same, rail_kept, gives_on}
use Rattle.pe_rail_ops.proofs.Arithmetic.{known_sides}

-- the inputs keep their values
pub inputs_same : (old new : List Node) (r : RegisterRails) → Grows old new → AreInputs old r → (v : ℕ → Bool) → inputs_in v new r ≡ inputs_in v old r
inputs_same old new r g h v =
    rw (g.same v r.powered h.powered, g.same v r.retained h.retained, rail_same old new r.clear g h.clear v, rail_same old new r.preset g h.preset v, rail_same old new r.restore g h.restore v, rail_same old new r.save g h.save v, rail_same old new r.both g h.both v, rail_same old new r.d g h.d v, rail_same old new r.before g h.before v, rail_same old new r.after g h.after v, rail_same old new r.main g h.main v, rail_same old new r.shadow g h.shadow v) refl

pub inputs_kept : (old new : List Node) (r : RegisterRails) → Grows old new → AreInputs old r → AreInputs new r
inputs_kept old new r g h = record {
  powered = g.keeps r.powered h.powered;
  retained = g.keeps r.retained h.retained;
  clear = rail_kept old new r.clear g h.clear;
  preset = rail_kept old new r.preset g h.preset;
  restore = rail_kept old new r.restore g h.restore;
  save = rail_kept old new r.save g h.save;
  both = rail_kept old new r.both g h.both;
  d = rail_kept old new r.d g h.d;
  before = rail_kept old new r.before g h.before;
  after = rail_kept old new r.after g h.after;
  main = rail_kept old new r.main g h.main;
  shadow = rail_kept old new r.shadow g h.shadow;
}

edge_is : (d held before after : Val) → pick_of (known_of (is_known before && is_known after)) (merge_of d held) (pick_of before (pick_of after held d) (pick_of after Corrupt held)) ≡ edge_of d held before after
edge_is d held Zero Zero = refl
edge_is d held Zero One = refl
edge_is d held Zero Corrupt = refl
edge_is d held One Zero = refl
edge_is d held One One = refl
edge_is d held One Corrupt = refl
edge_is d held Corrupt Zero = refl
edge_is d held Corrupt One = refl
edge_is d held Corrupt Corrupt = refl

pub clock_gives : (g0 g1 g2 g3 : List Node) (before after : Rail) (x y r : ℕ) → IsRail g0 before → IsRail g0 after → Gives g0 g1 (λ v. value_in v g0 before.one || value_in v g0 before.zero) x → Gives g1 g2 (λ v. value_in v g1 after.one || value_in v g1 after.zero) y → Gives g2 g3 (λ v. value_in v g2 x && value_in v g2 y) r → Gives g0 g3 (λ v. is_known (rail_in v g0 before) && is_known (rail_in v g0 after)) r
clock_gives g0 g1 g2 g3 before after x y r hb ha p q s = record {
  grows = grows_on g0 g2 g3 (grows_on g0 g1 g2 p.grows q.grows) s.grows;
  inside = s.inside;
  value = λ v.
      let e1 = s.value v in let e2 = q.grows.same v x p.inside in let e3 = p.value v in let e4 = q.value v in
      let e5 = p.grows.same v after.one ha.one_in in let e6 = p.grows.same v after.zero ha.zero_in in
      rw (known_sides (value_in v g0 before.one) (value_in v g0 before.zero), known_sides (value_in v g0 after.one) (value_in v g0 after.zero)) (cc);
}

pub stepped_gives : (g0 g1 g2 g3 : List Node) (d held before after corrupt x y r : Rail) → IsRail g0 held → IsRail g0 before → IsRail g0 after → IsRail g0 corrupt → ((v : ℕ → Bool) → rail_in v g0 corrupt ≡ Corrupt) → GivesRail g0 g1 (λ v. pick_of (rail_in v g0 after) (rail_in v g0 held) (rail_in v g0 d)) x → GivesRail g1 g2 (λ v. pick_of (rail_in v g1 after) (rail_in v g1 corrupt) (rail_in v g1 held)) y → GivesRail g2 g3 (λ v. pick_of (rail_in v g2 before) (rail_in v g2 x) (rail_in v g2 y)) r → GivesRail g0 g3 (λ v. pick_of (rail_in v g0 before) (pick_of (rail_in v g0 after) (rail_in v g0 held) (rail_in v g0 d)) (pick_of (rail_in v g0 after) Corrupt (rail_in v g0 held))) r
stepped_gives g0 g1 g2 g3 d held before after corrupt x y r hh hb ha hc none p q s =
    let to2 = grows_on g0 g1 g2 p.grows q.grows in
    gives_on g0 g2 g3 _ _ r to2 (λ v.
    let eb = rail_same g0 g2 before to2 hb v in
    let ex = rail_same g1 g2 x q.grows p.is_rail v ∙ p.value v in
    let ea = rail_same g0 g1 after p.grows ha v in let eh = rail_same g0 g1 held p.grows hh v in let ec = rail_same g0 g1 corrupt p.grows hc v ∙ none v in
    let ey = q.value v in
    cc) s

pub edge_gives : (g0 g1 g2 g3 g4 : List Node) (d held before after kn merged stepped r : Rail) (seen : ℕ) → IsRail g0 d → IsRail g0 held → IsRail g0 before → IsRail g0 after → Gives g0 g1 (λ v. is_known (rail_in v g0 before) && is_known (rail_in v g0 after)) seen → GivesRail g1 g2 (λ v. merge_of (rail_in v g1 d) (rail_in v g1 held)) merged → GivesRail g2 g3 (λ v. pick_of (rail_in v g2 before) (pick_of (rail_in v g2 after) (rail_in v g2 held) (rail_in v g2 d)) (pick_of (rail_in v g2 after) Corrupt (rail_in v g2 held))) stepped → ((v : ℕ → Bool) → rail_in v g3 kn ≡ known_of (value_in v g3 seen)) → GivesRail g3 g4 (λ v. pick_of (rail_in v g3 kn) (rail_in v g3 merged) (rail_in v g3 stepped)) r → GivesRail g0 g4 (λ v. edge_of (rail_in v g0 d) (rail_in v g0 held) (rail_in v g0 before) (rail_in v g0 after)) r
edge_gives g0 g1 g2 g3 g4 d held before after kn merged stepped r seen hd hh hb ha p q s is t =
    let to2 = grows_on g0 g1 g2 p.grows q.grows in
    let from1 = grows_on g1 g2 g3 q.grows s.grows in
    gives_on g0 g3 g4 _ _ r (grows_on g0 g1 g3 p.grows from1) (λ v.
    let d1 = rail_same g0 g1 d p.grows hd v in let h1 = rail_same g0 g1 held p.grows hh v in
    let d2 = rail_same g0 g2 d to2 hd v in let h2 = rail_same g0 g2 held to2 hh v in
    let b2 = rail_same g0 g2 before to2 hb v in let a2 = rail_same g0 g2 after to2 ha v in
    let ek = is v ∙ ap known_of (from1.same v seen p.inside ∙ p.value v) in
    let em = rail_same g2 g3 merged s.grows q.is_rail v ∙ q.value v in
    let es = s.value v in
    let table = edge_is (rail_in v g0 d) (rail_in v g0 held) (rail_in v g0 before) (rail_in v g0 after) in
    cc) t

pub clocked_gives : (g0 g1 g2 : List Node) (d before after held r : Rail) (f : (ℕ → Bool) → Val) → IsRail g0 d → IsRail g0 before → IsRail g0 after → GivesRail g0 g1 f held → GivesRail g1 g2 (λ v. edge_of (rail_in v g1 d) (rail_in v g1 held) (rail_in v g1 before) (rail_in v g1 after)) r → GivesRail g0 g2 (λ v. edge_of (rail_in v g0 d) (f v) (rail_in v g0 before) (rail_in v g0 after)) r
clocked_gives g0 g1 g2 d before after held r f hd hb ha p q = gives_on g0 g1 g2 _ _ r p.grows (λ v.
    let e1 = rail_same g0 g1 d p.grows hd v in let e2 = rail_same g0 g1 before p.grows hb v in let e3 = rail_same g0 g1 after p.grows ha v in let e4 = p.value v in
    cc) q

pub not_cleared_gives : (g0 g1 g2 g3 : List Node) (preset restore otherwise one x y r : Rail) (f : (ℕ → Bool) → Val) → IsRail g0 preset → IsRail g0 restore → IsRail g0 otherwise → IsRail g0 one → ((v : ℕ → Bool) → rail_in v g0 one ≡ One) → GivesRail g0 g1 f x → GivesRail g1 g2 (λ v. pick_of (rail_in v g1 restore) (rail_in v g1 otherwise) (rail_in v g1 x)) y → GivesRail g2 g3 (λ v. pick_of (rail_in v g2 preset) (rail_in v g2 y) (rail_in v g2 one)) r → GivesRail g0 g3 (λ v. pick_of (rail_in v g0 preset) (pick_of (rail_in v g0 restore) (rail_in v g0 otherwise) (f v)) One) r
not_cleared_gives g0 g1 g2 g3 preset restore otherwise one x y r f hp hr ho h1 is_one p q s =
    let to2 = grows_on g0 g1 g2 p.grows q.grows in
    gives_on g0 g2 g3 _ _ r to2 (λ v.
    let e1 = rail_same g0 g2 preset to2 hp v in let e2 = rail_same g0 g1 restore p.grows hr v in let e3 = rail_same g0 g1 otherwise p.grows ho v in
    let e4 = rail_same g0 g2 one to2 h1 v ∙ is_one v in let e5 = p.value v in let e6 = q.value v in
    cc) s

pub chosen_gives : (g0 g1 g2 g3 : List Node) (k : RegisterRails) (otherwise zero x y r : Rail) → AreInputs g0 k → IsRail g0 zero → ((v : ℕ → Bool) → rail_in v g0 zero ≡ Zero) → GivesRail g0 g1 (λ v. pick_of (rail_in v g0 k.preset) (pick_of (rail_in v g0 k.restore) (rail_in v g0 otherwise) (shadow_of (inputs_in v g0 k))) One) x → GivesRail g1 g2 (λ v. pick_of (rail_in v g1 k.preset) (rail_in v g1 zero) (rail_in v g1 k.both)) y → GivesRail g2 g3 (λ v. pick_of (rail_in v g2 k.clear) (rail_in v g2 x) (rail_in v g2 y)) r → GivesRail g0 g3 (λ v. chosen_of (inputs_in v g0 k) (rail_in v g0 otherwise)) r
chosen_gives g0 g1 g2 g3 k otherwise zero x y r h h0 is_zero p q s =
    let to2 = grows_on g0 g1 g2 p.grows q.grows in
    gives_on g0 g2 g3 _ _ r to2 (λ v.
    let e1 = rail_same g0 g2 k.clear to2 h.clear v in let e2 = rail_same g1 g2 x q.grows p.is_rail v ∙ p.value v in
    let e3 = rail_same g0 g1 k.preset p.grows h.preset v in let e4 = rail_same g0 g1 zero p.grows h0 v ∙ is_zero v in let e5 = rail_same g0 g1 k.both p.grows h.both v in
    let e6 = q.value v in
    ap (λ c. pick_of c (rail_in v g2 x) (rail_in v g2 y)) e1
    ∙ ap (λ a. pick_of (rail_in v g0 k.clear) a (rail_in v g2 y)) e2
    ∙ ap (pick_of (rail_in v g0 k.clear) (pick_of (rail_in v g0 k.preset) (pick_of (rail_in v g0 k.restore) (rail_in v g0 otherwise) (shadow_of (inputs_in v g0 k))) One)) (let all : rail_in v g2 y ≡ pick_of (rail_in v g0 k.preset) Zero (rail_in v g0 k.both) = cc in all)
    ∙ chosen_is (inputs_in v g0 k) (rail_in v g0 otherwise)) s

-- a choice that power keeps
pub kept_chosen_gives : (g0 g1 g2 g3 : List Node) (k : RegisterRails) (x y r : Rail) (f : (ℕ → Bool) → Val) → AreInputs g0 k → GivesRail g0 g1 f x → GivesRail g1 g2 (λ v. chosen_of (inputs_in v g1 k) (rail_in v g1 x)) y → GivesRail g2 g3 (λ v. kept_of (value_in v g2 k.powered) (rail_in v g2 y)) r → GivesRail g0 g3 (λ v. kept_of (value_in v g0 k.powered) (chosen_of (inputs_in v g0 k) (f v))) r
kept_chosen_gives g0 g1 g2 g3 k x y r f h p q s =
    let to2 = grows_on g0 g1 g2 p.grows q.grows in
    gives_on g0 g2 g3 _ _ r to2 (λ v.
    ap (λ on. kept_of on (rail_in v g2 y)) (to2.same v k.powered h.powered)
    ∙ ap (kept_of (value_in v g0 k.powered)) (q.value v ∙ ap (λ i. chosen_of i (rail_in v g1 x)) (inputs_same g0 g1 k p.grows h v) ∙ ap (chosen_of (inputs_in v g0 k)) (p.value v))) s

pub saved_gives : (g0 g1 g2 : List Node) (k : RegisterRails) (seen x r : Rail) → AreInputs g0 k → IsRail g0 seen → GivesRail g0 g1 (λ v. kept_of (value_in v g0 k.retained) (rail_in v g0 k.shadow)) x → GivesRail g1 g2 (λ v. pick_of (rail_in v g1 k.save) (rail_in v g1 x) (rail_in v g1 seen)) r → GivesRail g0 g2 (λ v. pick_of (rail_in v g0 k.save) (shadow_of (inputs_in v g0 k)) (rail_in v g0 seen)) r
saved_gives g0 g1 g2 k seen x r h hs p q = gives_on g0 g1 g2 _ _ r p.grows (λ v.
    let e1 = rail_same g0 g1 k.save p.grows h.save v in let e2 = p.value v in let e3 = rail_same g0 g1 seen p.grows hs v in
    cc) q

pub next_shadow_gives : (g0 g1 g2 g3 : List Node) (k : RegisterRails) (x y r : Rail) → AreInputs g0 k → GivesRail g0 g1 (λ v. visible_of (inputs_in v g0 k)) x → GivesRail g1 g2 (λ v. pick_of (rail_in v g1 k.save) (shadow_of (inputs_in v g1 k)) (rail_in v g1 x)) y → GivesRail g2 g3 (λ v. kept_of (value_in v g2 k.retained) (rail_in v g2 y)) r → GivesRail g0 g3 (λ v. next_shadow_of (inputs_in v g0 k)) r
next_shadow_gives g0 g1 g2 g3 k x y r h p q s =
    let to2 = grows_on g0 g1 g2 p.grows q.grows in
    gives_on g0 g2 g3 _ _ r to2 (λ v.
    ap (λ on. kept_of on (rail_in v g2 y)) (to2.same v k.retained h.retained)
    ∙ ap (kept_of (value_in v g0 k.retained))
    (q.value v
    ∙ ap (λ c. pick_of c (shadow_of (inputs_in v g1 k)) (rail_in v g1 x)) (rail_same g0 g1 k.save p.grows h.save v)
    ∙ ap (λ i. pick_of (rail_in v g0 k.save) (shadow_of i) (rail_in v g1 x)) (inputs_same g0 g1 k p.grows h v)
    ∙ ap (pick_of (rail_in v g0 k.save) (shadow_of (inputs_in v g0 k))) (p.value v))) s

-- isolation
isolated_is : (on : Bool) (enable : Val) (sense clamp : Bool) (x : Val) → kept_of (on && is_known enable) (pick_of enable (cond sense x (known_of clamp)) (cond sense (known_of clamp) x)) ≡ isolated_of on enable sense clamp x
isolated_is false enable sense clamp x = refl
isolated_is true Corrupt sense clamp x = refl
isolated_is true One sense clamp x = refl
isolated_is true Zero sense clamp x = refl

pub open_gives : (g0 g1 g2 : List Node) (on known r : ℕ) (enable : Rail) → IsIn g0 on → Gives g0 g1 (λ v. value_in v g0 enable.one || value_in v g0 enable.zero) known → Gives g1 g2 (λ v. value_in v g1 on && value_in v g1 known) r → Gives g0 g2 (λ v. value_in v g0 on && is_known (rail_in v g0 enable)) r
open_gives g0 g1 g2 on known r enable ho p q = record {
  grows = grows_on g0 g1 g2 p.grows q.grows;
  inside = q.inside;
  value = λ v.
      let e1 = q.value v in let e2 = p.value v in let e3 = p.grows.same v on ho in
      rw (known_sides (value_in v g0 enable.one) (value_in v g0 enable.zero)) (cc);
}

pub isolated_gives : (g0 g1 g2 g3 : List Node) (on opened : ℕ) (enable x passed r : Rail) (sense clamp : Bool) → IsIn g0 on → IsRail g0 enable → IsRail g0 x → GivesRail g0 g1 (λ v. pick_of (rail_in v g0 enable) (cond sense (rail_in v g0 x) (known_of clamp)) (cond sense (known_of clamp) (rail_in v g0 x))) passed → Gives g1 g2 (λ v. value_in v g1 on && is_known (rail_in v g1 enable)) opened → GivesRail g2 g3 (λ v. kept_of (value_in v g2 opened) (rail_in v g2 passed)) r → GivesRail g0 g3 (λ v. isolated_of (value_in v g0 on) (rail_in v g0 enable) sense clamp (rail_in v g0 x)) r
isolated_gives g0 g1 g2 g3 on opened enable x passed r sense clamp ho he hx p q s =
    gives_on g0 g2 g3 _ _ r (grows_on g0 g1 g2 p.grows q.grows) (λ v.
    let same = rail_same g0 g1 enable p.grows he v in
    ap (λ o. kept_of o (rail_in v g2 passed)) (q.value v ∙ ap (λ o. o && is_known (rail_in v g1 enable)) (p.grows.same v on ho) ∙ ap (λ e. value_in v g0 on && is_known e) same)
    ∙ ap (kept_of (value_in v g0 on && is_known (rail_in v g0 enable))) (rail_same g1 g2 passed q.grows p.is_rail v ∙ p.value v)
    ∙ isolated_is (value_in v g0 on) (rail_in v g0 enable) sense clamp (rail_in v g0 x)) s
