-- What adders of literals come to.
use Rattle.std.proofs.Common.{◌≡◌, ℕ, Bool, true, false, not, ◌&&◌, ◌||◌, List, refl}
use Rattle.pe_base.specs.Adder.{sum_bit, carry_bit, less_bit}
use Rattle.pe_graph.specs.declared.graph.Node.{Node}
use Rattle.pe_graph.specs.Literals.{complement_of}
use Rattle.pe_graph.specs.Nodes.{IsIn, value_in, Gives}
use Rattle.pe_graph.proofs.Growth.{grows_on}
use Rattle.pe_graph.proofs.Gates.{value_in-complement_of}
use Rattle.pe_rail_ops.specs.Adders.{GivesSum}

differ_table : (x y : Bool) → (not (x && y) && not (not x && not y)) ≡ sum_bit x y false
differ_table true true = refl
differ_table true false = refl
differ_table false true = refl
differ_table false false = refl

sum_table : (x y c : Bool) → sum_bit (sum_bit x y false) c false ≡ sum_bit x y c
sum_table true true true = refl
sum_table true true false = refl
sum_table true false true = refl
sum_table true false false = refl
sum_table false true true = refl
sum_table false true false = refl
sum_table false false true = refl
sum_table false false false = refl

carry_table : (x y c : Bool) → ((x && y) || (sum_bit x y false && c)) ≡ carry_bit x y c
carry_table true true c = refl
carry_table true false true = refl
carry_table true false false = refl
carry_table false true true = refl
carry_table false true false = refl
carry_table false false c = refl

less_table : (x y l : Bool) → ((not x && y) || (l && not (x && not y))) ≡ less_bit x y l
less_table true true true = refl
less_table true true false = refl
less_table true false true = refl
less_table true false false = refl
less_table false true l = refl
less_table false false true = refl
less_table false false false = refl

pub differ_gives : (g0 g1 g2 g3 : List Node) (x y both neither one : ℕ) → IsIn g0 x → IsIn g0 y → Gives g0 g1 (λ v. value_in v g0 x && value_in v g0 y) both → Gives g1 g2 (λ v. value_in v g1 (complement_of x) && value_in v g1 (complement_of y)) neither → Gives g2 g3 (λ v. value_in v g2 (complement_of both) && value_in v g2 (complement_of neither)) one → Gives g0 g3 (λ v. sum_bit (value_in v g0 x) (value_in v g0 y) false) one
differ_gives g0 g1 g2 g3 x y both neither one hx hy p q r = record {
  grows = grows_on g0 g2 g3 (grows_on g0 g1 g2 p.grows q.grows) r.grows;
  inside = r.inside;
  value = λ v.
      let a = p.value v in let b = q.value v in let c = r.value v in
      let e1 = q.grows.same v both p.inside in
      let ex = p.grows.same v x hx in let ey = p.grows.same v y hy in
      let n1 = value_in-complement_of v g1 x in let n2 = value_in-complement_of v g1 y in
      let n3 = value_in-complement_of v g2 both in let n4 = value_in-complement_of v g2 neither in
      let t = differ_table (value_in v g0 x) (value_in v g0 y) in
      cc;
}

pub less_gives : (g0 g1 g2 g3 g4 : List Node) (x y less above still below r : ℕ) → IsIn g0 x → IsIn g0 y → IsIn g0 less → Gives g0 g1 (λ v. value_in v g0 x && value_in v g0 (complement_of y)) above → Gives g1 g2 (λ v. value_in v g1 less && value_in v g1 (complement_of above)) still → Gives g2 g3 (λ v. value_in v g2 (complement_of x) && value_in v g2 y) below → Gives g3 g4 (λ v. value_in v g3 below || value_in v g3 still) r → Gives g0 g4 (λ v. less_bit (value_in v g0 x) (value_in v g0 y) (value_in v g0 less)) r
less_gives g0 g1 g2 g3 g4 x y less above still below r hx hy hl p q s t =
    let to2 = grows_on g0 g1 g2 p.grows q.grows in
    record {
      grows = grows_on g0 g3 g4 (grows_on g0 g2 g3 to2 s.grows) t.grows;
      inside = t.inside;
      value = λ v.
          let a = p.value v in let b = q.value v in let c = s.value v in let d = t.value v in
          let el = p.grows.same v less hl in
          let ex = to2.same v x hx in let ey = to2.same v y hy in
          let es = s.grows.same v still q.inside in
          let n1 = value_in-complement_of v g0 y in let n2 = value_in-complement_of v g1 above in let n3 = value_in-complement_of v g2 x in
          let table = less_table (value_in v g0 x) (value_in v g0 y) (value_in v g0 less) in
          cc;
    }

pub carried_gives : (g0 g1 g2 g3 : List Node) (x y half c both through r : ℕ) → IsIn g0 half → IsIn g0 c → Gives g0 g1 (λ v. value_in v g0 x && value_in v g0 y) both → Gives g1 g2 (λ v. value_in v g1 half && value_in v g1 c) through → Gives g2 g3 (λ v. value_in v g2 both || value_in v g2 through) r → Gives g0 g3 (λ v. (value_in v g0 x && value_in v g0 y) || (value_in v g0 half && value_in v g0 c)) r
carried_gives g0 g1 g2 g3 x y half c both through r hh hc p q t = record {
  grows = grows_on g0 g2 g3 (grows_on g0 g1 g2 p.grows q.grows) t.grows;
  inside = t.inside;
  value = λ v.
      let a = p.value v in let b = q.value v in let d = t.value v in
      let eb = q.grows.same v both p.inside in let eh = p.grows.same v half hh in let ec = p.grows.same v c hc in
      cc;
}

pub adder_gives : (g0 g1 g2 g3 : List Node) (x y c half sum carry : ℕ) → IsIn g0 x → IsIn g0 y → IsIn g0 c → Gives g0 g1 (λ v. sum_bit (value_in v g0 x) (value_in v g0 y) false) half → Gives g1 g2 (λ v. sum_bit (value_in v g1 half) (value_in v g1 c) false) sum → Gives g2 g3 (λ v. (value_in v g2 x && value_in v g2 y) || (value_in v g2 half && value_in v g2 c)) carry → GivesSum g0 g3 x y c (record { sum = sum; carry = carry })
adder_gives g0 g1 g2 g3 x y c half sum carry hx hy hc p q r =
    let to2 = grows_on g0 g1 g2 p.grows q.grows in
    record {
      grows = grows_on g0 g2 g3 to2 r.grows;
      sum_in = r.grows.keeps sum q.inside;
      carry_in = r.inside;
      sum = λ v.
          let keep = r.grows.same v sum q.inside in let a = p.value v in let b = q.value v in let ec = p.grows.same v c hc in
          let table = sum_table (value_in v g0 x) (value_in v g0 y) (value_in v g0 c) in
          cc;
      carry = λ v.
          let a = p.value v in let b = r.value v in
          let ex = to2.same v x hx in let ey = to2.same v y hy in let ec = to2.same v c hc in let eh = q.grows.same v half p.inside in
          let table = carry_table (value_in v g0 x) (value_in v g0 y) (value_in v g0 c) in
          cc;
    }
