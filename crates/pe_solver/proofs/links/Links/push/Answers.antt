use Rattle.std.proofs.Common.{◌≡◌, ◌+◌, ◌∙◌, ap, arith, length, get_or}
use Rattle.std.proofs.lemmas.List.{get_or_read, length_push}
use Rattle.pe_solver.proofs.LinkLemmas.{linked_push}
use Rattle.pe_solver.proofs.links.Links.push.Goals as goal

pub invariant_of-self-in-Ok-push : goal.invariant_of-self-in-Ok-push
invariant_of-self-in-Ok-push c =
    let s = c.self.inside in
    let size = c.self.invariant.heads in
    let rest = c.rest_of-rest.ensures.value in
    let count : c.len.result ≡ length s.masks.items + 1 = c.len.ensures ∙ c.push-in-Ok.new.self.ok.0 ∙ ap length c.in-Ok-push.ensures.items ∙ length_push s.masks.items c.args.mask in
    let newest : c.index.result.now ≡ get_or s.last.items c.rest_of-rest.result 0 = get_or_read s.last.items c.rest_of-rest.result _ (omega arith) c.index.ensures 0 in
    rw (c.in-Ok-push.ensures.items, c.in-Ok.ensures.items, newest, rest, count) (linked_push s.masks.items s.last.items s.before.items c.args.mask c.self.invariant)
