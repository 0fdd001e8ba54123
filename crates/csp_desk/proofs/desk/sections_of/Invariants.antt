-- The sections so far.
use Rattle.std.proofs.Common.{◌≡◌, take}
use Rattle.std.specs.List.{flat_map}
use Rattle.csp_desk.specs.Tellings.{section_text}
use Rattle.csp_desk.specs.Texts.{section}
use Rattle.csp_desk.proofs.desk.sections_of.Given as goal

abbrev pub invariant-loop-reporter : goal.invariant-loop-reporter
invariant-loop-reporter g l = flat_map section_text l.sections.items ≡ flat_map (λ b. section ((goal.Reporter-dyn g (b.vtable, b.value)).kind b.value) ((goal.Reporter-dyn g (b.vtable, b.value)).held b.value)) (take l.reporter-index l.desk)
