use Rattle.csp_page.proofs.Held.{found_held}
use Rattle.csp_page.proofs.laws.what_is_found_is_what_the_files_hold.Goals as goal

pub returns : goal.returns
returns c = found_held
