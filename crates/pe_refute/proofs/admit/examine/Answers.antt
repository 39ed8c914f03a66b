use Rattle.std.proofs.Common.{◌≡◌, subst, sym, ap, ◌∙◌}
use Rattle.std.specs.List.{All}
use Rattle.pe_cnf.specs.Cone.{HasCited}
use Rattle.pe_cnf.specs.Meaning.{AreTrue, Holds}
use Rattle.pe_refute.specs.Entries.{cited_of}
use Rattle.pe_refute.proofs.Entries.{cited_within, cited_true}
use Rattle.pe_refute.proofs.admit.examine.Goals as goal

pub judge-requires-clause-cited : goal.judge-requires-clause-cited
judge-requires-clause-cited c =
    let all : c.as_slice-2.result.now ≡ cited_of c.args.seen.now c.args.entry.now.cites = c.as_slice-2.ensures ∙ c.in_ok-cited.ensures ∙ ap (cited_of c.args.seen.now) c.as_slice.ensures in
    subst (HasCited c.args.job.now.graph) (sym all) (cited_within c.args.job.now.graph c.args.seen.now c.args.entry.now.cites c.requires.seen)

pub returns-clause-proved : goal.returns-clause-proved
returns-clause-proved c = λ is h.
    let nodes = c.args.job.now.graph in
    let ctx = c.args.entry.now.eq.ctx in
    let seen = c.args.seen.now in
    let cites = c.args.entry.now.cites in
    let kept : c.in_ok-cited.cited ≡ cited_of seen cites = c.in_ok-cited.ensures ∙ ap (cited_of seen) c.as_slice.ensures in
    let true_cited : AreTrue nodes ctx (cited_of seen cites) = cited_true nodes ctx seen cites c.requires.lawful (subst (All (Holds nodes)) kept h) in
    c.in_ok-fault.ensures.proved is (subst (AreTrue nodes ctx) (sym (c.as_slice-2.ensures ∙ kept)) true_cited)
