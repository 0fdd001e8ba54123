-- A word of private contracts, which stands here since contracts cite only specs/.
use Rattle.std.specs.Prelude.{List, ◌++◌}
use Rattle.csp_policy.specs.Types.{Policy, Reader}
use Rattle.csp_policy.specs.Room.{AreRead}

-- after what was read before, the reader has read these policies too
abbrev pub ReadsOn : Reader → Reader → List Policy → Type 0
ReadsOn before now more = (ps : List Policy)
    → AreRead ps before.policies before.room → AreRead (ps ++ more) now.policies now.room
