-- Items that are passed one after the other, and counted down from a limit.
use Rattle.std.proofs.Common.{◌≡◌, ◌∙◌, ◌-◌, ◌&&◌, ℕ, zero, suc, Bool, true, false, List, [], ◌∷◌, length, Option, Some, None, nat_le, le-leb, refl, ap, sym, arith}
use Rattle.std.specs.Bool.{MatchBool}
use Rattle.std.specs.Prelude.{is_some, option_map, MatchOption}
use Rattle.serde_json.specs.Data.{Data}
use Rattle.csp_json.specs.Arrays.{IsPassed, fits_in}
use Rattle.csp_json.specs.View.{view}
use Rattle.csp_json.specs.Types.{Value}

-- whether all fitted so far, and what is left fits in the room that is left
abbrev pub still_fits : Bool → ℕ → Option (List Data) → Option Bool
still_fits fits room found = option_map (λ values. fits && nat_le (length values) room) found

pub all_room : (limit : ℕ) (found : Option (List Data)) → fits_in limit found ≡ still_fits true limit found
all_room limit None = refl
all_room limit (Some values) = refl

none_fit : (fits : Bool) (n : ℕ) → fits && nat_le (suc n) 0 ≡ false && nat_le n 0
none_fit true n = grind arith
none_fit false n = refl

one_less : (n room : ℕ) → nat_le (suc n) (suc room) ≡ nat_le n room
one_less n room = grind arith

no_room : (fits : Bool) (d : Data) (after : Option (List Data))
    → still_fits fits 0 (option_map (λ rest. d ∷ rest) after) ≡ still_fits false 0 after
no_room fits d None = refl
no_room fits d (Some values) = ap Some (none_fit fits (length values))

less_room : (fits : Bool) (room : ℕ) (d : Data) (after : Option (List Data))
    → still_fits fits (suc room) (option_map (λ rest. d ∷ rest) after) ≡ still_fits fits room after
less_room fits room d None = refl
less_room fits room d (Some values) = ap (λ b. Some (fits && b)) (one_less (length values) room)

pub passed_without_room : (fits : Bool) (room : ℕ) (before after : Option (List Data)) → room ≡ 0
    → IsPassed before after → still_fits fits room before ≡ still_fits false room after
passed_without_room fits room before after none passed =
    ap (still_fits fits room) passed.1
    ∙ ap (λ (n : ℕ). still_fits fits n (option_map (λ rest. passed.0 ∷ rest) after)) none
    ∙ no_room fits passed.0 after ∙ ap (λ (n : ℕ). still_fits false n after) (sym none)

pub passed_with_room : (fits : Bool) (room left : ℕ) (before after : Option (List Data)) → room ≡ suc left
    → IsPassed before after → still_fits fits room before ≡ still_fits fits left after
passed_with_room fits room left before after some passed =
    ap (still_fits fits room) passed.1
    ∙ ap (λ (n : ℕ). still_fits fits n (option_map (λ rest. passed.0 ∷ rest) after)) some
    ∙ less_room fits left passed.0 after

all_fit : (fits : Bool) (room : ℕ) → fits && nat_le 0 room ≡ fits
all_fit true room = le-leb 0 room (omega arith)
all_fit false room = refl

pub at_the_end : (fits : Bool) (room : ℕ) → still_fits fits room (Some []) ≡ Some fits
at_the_end fits room = ap Some (all_fit fits room)

pub is_passed : (After : Type 0) (before after : Option (List Data)) (item : Option Value) (passed : Bool)
    → passed ≡ is_some item
    → MatchOption item ((before ≡ Some []) × After) (λ v. before ≡ option_map (λ rest. view v ∷ rest) after)
    → MatchBool passed (IsPassed before after) (before ≡ Some [])
is_passed After before after None passed is said = rw is said.0
is_passed After before after (Some v) passed is said = rw is (view v, said)
