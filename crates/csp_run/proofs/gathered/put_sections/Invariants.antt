-- What stands before the section is put.
use Rattle.std.proofs.Common.{◌≡◌, ◌≤◌, take}
use Rattle.std.specs.List.{flat_map}
use Rattle.csp_desk.specs.Tellings.{section_text}
use Rattle.csp_run.specs.Gathered.{HasPut}
use Rattle.csp_run.proofs.gathered.put_sections.Given as goal

abbrev pub invariant-loop-section : goal.invariant-loop-section
invariant-loop-section g l = record {
  put : HasPut (g.S.Sink.taken l.fn.out) (g.S.Sink.taken l.out) l.fn.gathered.items l.gathered.items
      (flat_map section_text (take l.section-index l.sections));
  later : g.S.Sink.faults l.fn.out ≤ g.S.Sink.faults l.out;
  no_fault : g.S.Sink.faults l.out ≡ g.S.Sink.faults l.fn.out;
}
