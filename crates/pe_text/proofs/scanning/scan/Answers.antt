use Rattle.std.proofs.Common.{◌∙◌}
use Rattle.pe_text.specs.Language.{class_of}
use Rattle.pe_text.proofs.Scans.{bad_only, left_out_only, over_only}
use Rattle.pe_text.proofs.scanning.scan.Goals as goal

pub returns-in-Err-clause-only : goal.returns-in-Err-clause-only
returns-in-Err-clause-only c = λ tokens k.
    bad_only c.args.lang c.args.text.now tokens c.in-Err.bad (λ at h b. c.one_cut.ensures.not_both (class_of c.args.lang) c.args.text.now tokens at h b) c.in-Err.ensures.bad k

pub returns-in-Err-allow-clause-only : goal.returns-in-Err-allow-clause-only
returns-in-Err-allow-clause-only c = λ tokens k.
    left_out_only c.args.lang c.args.text.now c.as_slice.result.now tokens c.in-Err-allow.left_out
    (c.as_slice.ensures ∙ c.one_cut.ensures.one (class_of c.args.lang) c.args.text.now c.in-Ok.tokens tokens c.in-Ok.ensures.found k.is_allowed.is_cut)
    c.in-Err-allow.ensures.fault k

pub returns-in-Err-limit-clause-only : goal.returns-in-Err-limit-clause-only
returns-in-Err-limit-clause-only c = λ tokens k.
    over_only c.args.lang c.args.text.now c.as_slice-2.result.now tokens c.in-Err-limit.over
    (c.as_slice-2.ensures ∙ c.one_cut.ensures.one (class_of c.args.lang) c.args.text.now c.in-Ok.tokens tokens c.in-Ok.ensures.found k.is_allowed.is_cut)
    c.in-Err-limit.ensures.fault k

pub returns-clause-only : goal.returns-clause-only
returns-clause-only c = λ tokens k.
    c.one_cut.ensures.one (class_of c.args.lang) c.args.text.now c.in-Ok.tokens tokens c.in-Ok.ensures.found k.is_allowed.is_cut
