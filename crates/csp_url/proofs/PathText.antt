-- The text of a path reads as its pieces.
use Rattle.std.proofs.Common.{◌≡◌, ◌≢◌, ◌∙◌, ap, refl, true, List, [], ◌∷◌, map, Some, ℕ}
use Rattle.std.specs.List.{list_all}
use Rattle.percent_encoding.specs.Percent.{percent_decode}
use Rattle.csp_model.specs.Paths.{path_text}
use Rattle.csp_model.specs.Validity.{is_piece, IsValidUrl}
use Rattle.csp_url.specs.Types.{Url}
use Rattle.csp_model.proofs.PieceBytes.{pieces_bytes}
use Rattle.csp_model.proofs.PathText.{split_at-path_text, decoded_again}
use Rattle.csp_url.specs.Reading.{whole_pieces, found_path}
use Rattle.csp_url.specs.Texts.{ReadsBack}

pub path_back : (pieces : List (List ℕ)) → pieces ≢ [] → list_all is_piece pieces ≡ true → found_path (path_text pieces) ≡ Some pieces
unfolding found_path
path_back [] some h = absurd (some refl)
path_back (piece ∷ pieces) some h =
    ap whole_pieces (ap (map percent_decode) (split_at-path_text piece pieces) ∙ decoded_again (piece ∷ pieces) (pieces_bytes (piece ∷ pieces) h)) ∙ rw h refl

pub reads_back : (there : Url) → IsValidUrl there → ReadsBack there
reads_back (Url.Plain scheme) valid = tt
reads_back (Url.Hosted scheme host port path) valid = path_back path valid.2 valid.3
