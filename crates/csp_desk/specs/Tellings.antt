-- The texts that pieces make.
use Rattle.std.specs.Prelude.{ℕ, List, ◌++◌}
use Rattle.std.specs.List.{flat_map}
use Rattle.csp_desk.specs.declared.telling.Section.{Section}
use Rattle.csp_desk.specs.declared.telling.Telling.{Telling}
use Rattle.csp_desk.specs.declared.telling.Telling.TheVariants.{Made, Held}

-- what a telling says
abbrev pub telling_text : Telling → List ℕ
telling_text (Made text) = text
telling_text (Held pieces) = flat_map (λ piece. piece.now) pieces.items

-- the same behind its heading
abbrev pub section_text : Section → List ℕ
section_text s = s.heading.now ++ telling_text s.telling
