-- Rails as a graph grows.
use Rattle.std.proofs.Common.{◌≡◌, ℕ, Bool, cond, ◌&&◌, ◌||◌, List, [], ◌∷◌, ◌++◌, refl, ◌∙◌}
use Rattle.std.specs.Prelude.{All}
use Rattle.std.proofs.lemmas.List.{map-append}
use Rattle.std.proofs.lemmas.List.Elements.{All-head, All-tail, All-weaker, All-push}
use Rattle.pe_base.specs.declared.value.Val.{Val}
use Rattle.pe_base.specs.declared.value.Val.TheVariants.{Corrupt}
use Rattle.pe_base.specs.Values.{pick_of}
use Rattle.pe_base.specs.Operators.{not_of, and_of, or_of}
use Rattle.pe_graph.specs.declared.graph.Node.{Node}
use Rattle.pe_graph.specs.Nodes.{IsIn, IsGraph, value_in, Grows, Gives}
use Rattle.pe_graph.specs.Literals.{truth_of}
use Rattle.pe_graph.proofs.Growth.{grows_not, grows_on}
use Rattle.pe_graph.proofs.Gates.{value_in-truth_of, IsIn-truth_of}
use Rattle.pe_base.specs.Words.{is_one}
use Rattle.pe_rail_ops.specs.declared.bit.Rail.{Rail}
use Rattle.pe_rail_ops.specs.Rails.{rail_in, rails_in, side_of, IsRail, GivesRail, GivesRails}
use Rattle.pe_rail_ops.proofs.Tables.{and_rail, and_apart, or_rail, or_apart, kept_rail, kept_apart, picked, picked_apart, constant_rail, constant_apart}

pub grows_same : (a b c : List Node) → Grows a b → c ≡ b → Grows a c
grows_same a b c g e = rw e g

pub rail_same : (old new : List Node) (r : Rail) → Grows old new → IsRail old r → (v : ℕ → Bool) → rail_in v new r ≡ rail_in v old r
rail_same old new r g h v = let p = g.same v r.one h.one_in in let q = g.same v r.zero h.zero_in in cc

pub rail_kept : (old new : List Node) (r : Rail) → Grows old new → IsRail old r → IsRail new r
rail_kept old new r g h = record {
  one_in = g.keeps r.one h.one_in;
  zero_in = g.keeps r.zero h.zero_in;
  apart = λ v. let p = g.same v r.one h.one_in in let q = g.same v r.zero h.zero_in in let a = h.apart v in cc;
}

module _ (g0 g1 g2 : List Node) (a b : Rail) (one zero : ℕ) where
  pub and_gives : IsRail g0 a → IsRail g0 b → Gives g0 g1 (λ v. value_in v g0 a.one && value_in v g0 b.one) one → Gives g1 g2 (λ v. value_in v g1 a.zero || value_in v g1 b.zero) zero → GivesRail g0 g2 (λ v. and_of (rail_in v g0 a) (rail_in v g0 b)) (record { one = one; zero = zero })
  and_gives ha hb p q =
      let is1 : (v : ℕ → Bool) → value_in v g2 one ≡ (value_in v g0 a.one && value_in v g0 b.one) = λ v. q.grows.same v one p.inside ∙ p.value v in
      let is0 : (v : ℕ → Bool) → value_in v g2 zero ≡ (value_in v g0 a.zero || value_in v g0 b.zero) = λ v. let x = p.grows.same v a.zero ha.zero_in in let y = p.grows.same v b.zero hb.zero_in in let z = q.value v in cc in
      record {
        grows = grows_on g0 g1 g2 p.grows q.grows;
        is_rail = record {
          one_in = q.grows.keeps one p.inside;
          zero_in = q.inside;
          apart = λ v. rw (is1 v, is0 v) (and_apart (value_in v g0 a.one) (value_in v g0 a.zero) (value_in v g0 b.one) (value_in v g0 b.zero) (ha.apart v) (hb.apart v));
        };
        value = λ v. rw (is1 v, is0 v) (and_rail (value_in v g0 a.one) (value_in v g0 a.zero) (value_in v g0 b.one) (value_in v g0 b.zero) (ha.apart v) (hb.apart v));
      }

  pub or_gives : IsRail g0 a → IsRail g0 b → Gives g0 g1 (λ v. value_in v g0 a.one || value_in v g0 b.one) one → Gives g1 g2 (λ v. value_in v g1 a.zero && value_in v g1 b.zero) zero → GivesRail g0 g2 (λ v. or_of (rail_in v g0 a) (rail_in v g0 b)) (record { one = one; zero = zero })
  or_gives ha hb p q =
      let is1 : (v : ℕ → Bool) → value_in v g2 one ≡ (value_in v g0 a.one || value_in v g0 b.one) = λ v. q.grows.same v one p.inside ∙ p.value v in
      let is0 : (v : ℕ → Bool) → value_in v g2 zero ≡ (value_in v g0 a.zero && value_in v g0 b.zero) = λ v. let x = p.grows.same v a.zero ha.zero_in in let y = p.grows.same v b.zero hb.zero_in in let z = q.value v in cc in
      record {
        grows = grows_on g0 g1 g2 p.grows q.grows;
        is_rail = record {
          one_in = q.grows.keeps one p.inside;
          zero_in = q.inside;
          apart = λ v. rw (is1 v, is0 v) (or_apart (value_in v g0 a.one) (value_in v g0 a.zero) (value_in v g0 b.one) (value_in v g0 b.zero) (ha.apart v) (hb.apart v));
        };
        value = λ v. rw (is1 v, is0 v) (or_rail (value_in v g0 a.one) (value_in v g0 a.zero) (value_in v g0 b.one) (value_in v g0 b.zero) (ha.apart v) (hb.apart v));
      }

-- a value where there is power
module _ (g0 g1 g2 : List Node) (a : Rail) (one zero : ℕ) where
  pub kept_gives : (on : ℕ) → IsIn g0 on → IsRail g0 a → Gives g0 g1 (λ v. value_in v g0 on && value_in v g0 a.one) one → Gives g1 g2 (λ v. value_in v g1 on && value_in v g1 a.zero) zero → GivesRail g0 g2 (λ v. cond (value_in v g0 on) (rail_in v g0 a) Corrupt) (record { one = one; zero = zero })
  kept_gives on ho ha p q =
      let is1 : (v : ℕ → Bool) → value_in v g2 one ≡ (value_in v g0 on && value_in v g0 a.one) = λ v. q.grows.same v one p.inside ∙ p.value v in
      let is0 : (v : ℕ → Bool) → value_in v g2 zero ≡ (value_in v g0 on && value_in v g0 a.zero) = λ v. let x = p.grows.same v on ho in let y = p.grows.same v a.zero ha.zero_in in let z = q.value v in cc in
      record {
        grows = grows_on g0 g1 g2 p.grows q.grows;
        is_rail = record {
          one_in = q.grows.keeps one p.inside;
          zero_in = q.inside;
          apart = λ v. rw (is1 v, is0 v) (kept_apart (value_in v g0 on) (value_in v g0 a.one) (value_in v g0 a.zero) (ha.apart v));
        };
        value = λ v. rw (is1 v, is0 v) (kept_rail (value_in v g0 on) (value_in v g0 a.one) (value_in v g0 a.zero));
      }

pub side_gives : (g0 g1 g2 g3 : List Node) (control : Rail) (x y first second l : ℕ) → IsRail g0 control → IsIn g0 x → IsIn g0 y → Gives g0 g1 (λ v. value_in v g0 x || value_in v g0 control.one) first → Gives g1 g2 (λ v. value_in v g1 y || value_in v g1 control.zero) second → Gives g2 g3 (λ v. value_in v g2 first && value_in v g2 second) l → Gives g0 g3 (λ v. side_of (value_in v g0 control.one) (value_in v g0 control.zero) (value_in v g0 x) (value_in v g0 y)) l
side_gives g0 g1 g2 g3 control x y first second l hc hx hy p q r = record {
  grows = grows_on g0 g2 g3 (grows_on g0 g1 g2 p.grows q.grows) r.grows;
  inside = r.inside;
  value = λ v.
      let a = q.grows.same v first p.inside in let b = p.value v in let c = q.value v in
      let d = p.grows.same v y hy in let e = p.grows.same v control.zero hc.zero_in in let f = r.value v in cc;
}

pub pick_gives : (g0 g1 g2 : List Node) (control x y : Rail) (one none : ℕ) → IsRail g0 control → IsRail g0 x → IsRail g0 y → Gives g0 g1 (λ v. side_of (value_in v g0 control.one) (value_in v g0 control.zero) (value_in v g0 x.one) (value_in v g0 y.one)) one → Gives g1 g2 (λ v. side_of (value_in v g1 control.one) (value_in v g1 control.zero) (value_in v g1 x.zero) (value_in v g1 y.zero)) none → GivesRail g0 g2 (λ v. pick_of (rail_in v g0 control) (rail_in v g0 x) (rail_in v g0 y)) (record { one = one; zero = none })
pick_gives g0 g1 g2 control x y one none hc hx hy p q =
    let is1 : (v : ℕ → Bool) → value_in v g2 one ≡ side_of (value_in v g0 control.one) (value_in v g0 control.zero) (value_in v g0 x.one) (value_in v g0 y.one) = λ v. q.grows.same v one p.inside ∙ p.value v in
    let is0 : (v : ℕ → Bool) → value_in v g2 none ≡ side_of (value_in v g0 control.one) (value_in v g0 control.zero) (value_in v g0 x.zero) (value_in v g0 y.zero) = λ v.
    let a = p.grows.same v control.one hc.one_in in let b = p.grows.same v control.zero hc.zero_in in
    let c = p.grows.same v x.zero hx.zero_in in let d = p.grows.same v y.zero hy.zero_in in let e = q.value v in cc in
    record {
      grows = grows_on g0 g1 g2 p.grows q.grows;
      is_rail = record {
        one_in = q.grows.keeps one p.inside;
        zero_in = q.inside;
        apart = λ v. rw (is1 v, is0 v) (picked_apart (value_in v g0 control.one) (value_in v g0 control.zero) (value_in v g0 x.one) (value_in v g0 x.zero) (value_in v g0 y.one) (value_in v g0 y.zero) (hc.apart v) (hx.apart v) (hy.apart v));
      };
      value = λ v. rw (is1 v, is0 v) (picked (value_in v g0 control.one) (value_in v g0 control.zero) (value_in v g0 x.one) (value_in v g0 x.zero) (value_in v g0 y.one) (value_in v g0 y.zero) (hc.apart v) (hx.apart v) (hy.apart v));
    }

pub rails_same : (old new : List Node) (rs : List Rail) → Grows old new → All (IsRail old) rs → (v : ℕ → Bool) → rails_in v new rs ≡ rails_in v old rs
rails_same old new [] g h v = refl
rails_same old new (r ∷ rs) g h v =
    let x = rail_same old new r g (All-head (IsRail old) r rs h) v in
    let xs = rails_same old new rs g (All-tail (IsRail old) r rs h) v in
    cc

pub rails_kept : (old new : List Node) (rs : List Rail) → Grows old new → All (IsRail old) rs → All (IsRail new) rs
rails_kept old new rs g h = All-weaker (IsRail old) (IsRail new) (λ r k. rail_kept old new r g k) rs h

-- the same rail under an equal value, and after growth before it
pub gives_as : (g0 g1 : List Node) (x y : (ℕ → Bool) → Val) (r : Rail) → ((v : ℕ → Bool) → x v ≡ y v) → GivesRail g0 g1 x r → GivesRail g0 g1 y r
gives_as g0 g1 x y r e p = record { grows = p.grows; is_rail = p.is_rail; value = λ v. p.value v ∙ e v }

pub gives_on : (g0 g1 g2 : List Node) (x y : (ℕ → Bool) → Val) (r : Rail) → Grows g0 g1 → ((v : ℕ → Bool) → x v ≡ y v) → GivesRail g1 g2 x r → GivesRail g0 g2 y r
gives_on g0 g1 g2 x y r g e p = record { grows = grows_on g0 g1 g2 g p.grows; is_rail = p.is_rail; value = λ v. p.value v ∙ e v }

-- the literals of a constant
module _ (nodes : List Node) (graph : IsGraph nodes) (x : Val) where
  pub constant_value : (v : ℕ → Bool) → rail_in v nodes (record { one = truth_of (is_one x); zero = truth_of (is_one (not_of x)) }) ≡ x
  constant_value v = constant_rail x _ _ (value_in-truth_of v nodes (is_one x) graph) (value_in-truth_of v nodes (is_one (not_of x)) graph)

  pub constant_is : IsRail nodes (record { one = truth_of (is_one x); zero = truth_of (is_one (not_of x)) })
  constant_is = record {
    one_in = IsIn-truth_of nodes (is_one x) graph;
    zero_in = IsIn-truth_of nodes (is_one (not_of x)) graph;
    apart = λ v. rw (value_in-truth_of v nodes (is_one x) graph, value_in-truth_of v nodes (is_one (not_of x)) graph) (constant_apart x);
  }

-- rails that are there
pub rails_at_once : (nodes : List Node) (x : (ℕ → Bool) → List Val) (rails : List Rail) → All (IsRail nodes) rails → ((v : ℕ → Bool) → rails_in v nodes rails ≡ x v) → GivesRails nodes nodes x rails
rails_at_once nodes x rails h e = record { grows = grows_not nodes; are_rails = h; values = e }

-- the same rails under equal values
pub rails_as : (old new : List Node) (x y : (ℕ → Bool) → List Val) (rails : List Rail) → ((v : ℕ → Bool) → x v ≡ y v) → GivesRails old new x rails → GivesRails old new y rails
rails_as old new x y rails e p = record { grows = p.grows; are_rails = p.are_rails; values = λ v. p.values v ∙ e v }

-- one rail more
pub rails_push : (g0 g1 g2 : List Node) (x : (ℕ → Bool) → List Val) (y : (ℕ → Bool) → Val) (rails more : List Rail) (r : Rail) → more ≡ rails ++ r ∷ [] → GivesRails g0 g1 x rails → GivesRail g1 g2 y r → GivesRails g0 g2 (λ v. x v ++ y v ∷ []) more
rails_push g0 g1 g2 x y rails more r is p q = rw is (record {
  grows = grows_on g0 g1 g2 p.grows q.grows;
  are_rails = All-push (IsRail g2) rails r (rails_kept g1 g2 rails q.grows p.are_rails) q.is_rail;
  values = λ v.
      let before = rails_same g1 g2 rails q.grows p.are_rails v ∙ p.values v in
      map-append (rail_in v g2) rails (r ∷ []) ∙ rw (before, q.value v) refl;
})

-- the same rails under equal values, after growth before them
pub rails_on : (g0 g1 g2 : List Node) (x y : (ℕ → Bool) → List Val) (rails : List Rail) → Grows g0 g1 → ((v : ℕ → Bool) → x v ≡ y v) → GivesRails g1 g2 x rails → GivesRails g0 g2 y rails
rails_on g0 g1 g2 x y rails g e p = record { grows = grows_on g0 g1 g2 g p.grows; are_rails = p.are_rails; values = λ v. p.values v ∙ e v }
