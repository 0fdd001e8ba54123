use Rattle.std.proofs.Common.{◌∙◌, ap, arith}
use Rattle.csp_desk.specs.Tellings.{section_text}
use Rattle.csp_run.proofs.Gathering.{put_more, put_fails}
use Rattle.csp_run.proofs.gathered.put_sections.Goals as goal

pub returns-in-Err-clause-prefix : goal.returns-in-Err-clause-prefix
returns-in-Err-clause-prefix g c =
    put_fails section_text c.args.sections.now c.loop-section.section-index c.section-item.result _ _ _ _ _ _
    c.loop-section-test.true (ap section_text c.section-item.is) c.loop-section.invariant.put
    c.in-Err.ensures.prefix

pub loop-section-preserved : goal.loop-section-preserved
loop-section-preserved g c = record {
  put =
      put_more section_text c.args.sections.now c.loop-section.section-index c.section-item.result _ _ _ _ _ _ _
      c.loop-section-test.true (ap section_text c.section-item.is) c.loop-section.invariant.put
      c.in-Ok.ensures.put;
  later = omega (arith, c.put_section.ensures.later, c.loop-section.invariant.later);
  no_fault = c.in-Ok.ensures.no_fault ∙ c.loop-section.invariant.no_fault;
}
