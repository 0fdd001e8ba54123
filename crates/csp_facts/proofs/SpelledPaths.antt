-- A valid path is spelled by a word, and no other valid path by the same.
use Rattle.std.proofs.Common.{arith, ◌≡◌, ◌∙◌, sym, ap, ℕ, true, false, ◌||◌, List, [], ◌∷◌, ◌++◌, map, drop, All, refl}
use Rattle.std.proofs.lemmas.Bool.{agree_below_at}
use Rattle.std.proofs.lemmas.Bool.Decides.{nat_tests}
use Rattle.std.proofs.lemmas.List.Elements.{All-nil, All-cons, All-append}
use Rattle.percent_encoding.specs.AsciiSet.{should_percent_encode}
use Rattle.percent_encoding.specs.Percent.{percent_encode, percent_decode}
use Rattle.percent_encoding.proofs.AsciiSetLemmas.{ascii_from_kept}
use Rattle.percent_encoding.proofs.PercentLemmas.{IsEscapeByte, All-percent_encode}
use Rattle.csp_model.specs.Paths.{path_text, pieces_of}
use Rattle.csp_model.specs.declared.path.TheConstants.{ESCAPED}
use Rattle.csp_model.proofs.PieceBytes.{pieces_bytes}
use Rattle.csp_model.proofs.PathText.{split_at-path_text, decoded_again}
use Rattle.csp_facts.specs.Atoms.{IsValidPath}
use Rattle.csp_facts.specs.Spelling.{is_visible}
use Rattle.csp_facts.proofs.SpelledWords.{IsWord, IsVisible, word}

kept_visible : (b : ℕ) → should_percent_encode ESCAPED b ≡ false → IsVisible b
unfolding should_percent_encode
kept_visible b kept =
    let tested = agree_below_at (λ n. should_percent_encode ESCAPED n || is_visible n) (λ _. true) 128 b refl (ascii_from_kept ESCAPED b kept) in
    ap (λ e. e || is_visible b) (sym kept) ∙ tested

escape_visible : (b : ℕ) → IsEscapeByte b → IsVisible b
escape_visible b escape = grind (arith, nat_tests)

path_visible : (pieces : List (List ℕ)) → All IsVisible (path_text pieces)
path_visible [] = All-nil IsVisible
path_visible (piece ∷ pieces) =
    let encoded = percent_encode ESCAPED piece in
    let each = All-append IsVisible encoded (path_text pieces) (All-percent_encode IsVisible ESCAPED piece kept_visible escape_visible) (path_visible pieces) in
    All-cons IsVisible 47 (encoded ++ path_text pieces) refl each

pub path_word : (pieces : List (List ℕ)) → IsValidPath pieces → IsWord (path_text pieces)
path_word [] valid = absurd (valid.0 refl)
path_word (piece ∷ pieces) valid = word (path_text (piece ∷ pieces)) (omega arith) (path_visible (piece ∷ pieces))

read_back : (pieces : List (List ℕ)) → IsValidPath pieces → pieces_of (drop 1 (path_text pieces)) ≡ pieces
read_back [] valid = absurd (valid.0 refl)
read_back (piece ∷ pieces) valid = ap (map percent_decode) (split_at-path_text piece pieces) ∙ decoded_again (piece ∷ pieces) (pieces_bytes (piece ∷ pieces) valid.1)

pub path_told : (first second : List (List ℕ)) → IsValidPath first → IsValidPath second → path_text first ≡ path_text second → first ≡ second
path_told first second valid also same = sym (read_back first valid) ∙ ap (λ text. pieces_of (drop 1 text)) same ∙ read_back second also
