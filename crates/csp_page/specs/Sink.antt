-- The output of a page's call, with so much room.
use Rattle.std.specs.Prelude.{ℕ, List, ◌∷◌}
use Rattle.csp_io.specs.MemorySink.{sink_faults, sink_room, sink_taken}
use Rattle.csp_page.specs.declared.sink.PageSink.{PageSink}

abbrev pub page_room : PageSink → ℕ
page_room p = sink_room p.sink

-- the room, and behind it the bytes that were taken
abbrev pub page_taken : PageSink → List ℕ
page_taken p = page_room p ∷ sink_taken p.sink

-- how often it was full where bytes came
abbrev pub page_refusals : PageSink → ℕ
page_refusals p = sink_faults p.sink
