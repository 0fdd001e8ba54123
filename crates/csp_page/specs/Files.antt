-- The files of a page's call, of which none that is there fails.
use Rattle.std.specs.Prelude.{ℕ, List, Option, Some, None}
use Rattle.csp_io.specs.MemoryInputs.{memory_contents, memory_current, memory_left, memory_log, memory_faults}
use Rattle.csp_io.specs.declared.log.Start.{Start}
use Rattle.csp_page.specs.declared.files.PageInputs.{PageInputs}

abbrev pub page_contents : PageInputs → List ℕ → Option (List ℕ)
page_contents p = memory_contents p.files

abbrev pub page_current : PageInputs → Option (List ℕ)
page_current p = memory_current p.files

abbrev pub page_left : PageInputs → Option (List ℕ)
page_left p = memory_left p.files

abbrev pub page_log : PageInputs → List Start
page_log p = memory_log p.files

-- how often a file has failed that has this content: never, where it is there
abbrev pub faults_with : Option (List ℕ) → ℕ → ℕ
faults_with (Some bytes) faults = 0
faults_with None faults = faults

abbrev pub page_faults : PageInputs → List ℕ → ℕ
page_faults p name = faults_with (page_contents p name) (memory_faults p.files)
