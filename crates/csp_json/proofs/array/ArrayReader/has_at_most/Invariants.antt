use Rattle.std.proofs.Common.{◌≡◌, length}
use Rattle.csp_json.specs.Arrays.{fits_in, items_left}
use Rattle.csp_json.proofs.Fits.{still_fits}
use Rattle.csp_json.proofs.array.ArrayReader.has_at_most.Given as goal

abbrev pub invariant-items : goal.invariant-items
invariant-items l =
    fits_in l.limit (items_left l.initial.self) ≡ still_fits l.fits l.room (items_left l.self)

abbrev pub decreases-items : goal.decreases-items
decreases-items l = length l.self
