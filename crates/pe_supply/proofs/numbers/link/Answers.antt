use Rattle.std.proofs.Common.{◌<◌, length, max, sym, subst}
use Rattle.pe_supply.proofs.Climbing.{inside_linked, forest_linked, roots_linked}
use Rattle.pe_supply.proofs.numbers.link.Goals as goal

pub bounds-above-max : goal.bounds-above-max
bounds-above-max c =
    let above = c.root-y.new.above in
    let one = c.root-x.ensures in
    let two = c.root-y.ensures in
    let inside : max c.root-x.result c.root-y.result < length above =
    inside_linked c.args.above.now c.root-x.new.above above c.args.i c.args.j c.root-x.result c.root-y.result two.forest c.requires.first c.requires.second one.same two.same one.root two.root in
    subst (λ k. k < length above) (sym c.max.ensures) inside

pub returns : goal.returns
returns c =
    let old = c.args.above.now in
    let middle = c.root-x.new.above in
    let above = c.root-y.new.above in
    let x = c.root-x.result in
    let y = c.root-y.result in
    let one = c.root-x.ensures in
    let two = c.root-y.ensures in
    rw (c.max.ensures, c.min.ensures) record {
      forest = forest_linked old middle above c.args.i c.args.j x y two.forest c.requires.first c.requires.second one.same two.same one.root two.root;
      joined = roots_linked old middle above c.args.i c.args.j x y two.forest c.requires.first c.requires.second one.same two.same one.root two.root;
    }
