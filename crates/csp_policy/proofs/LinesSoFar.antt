-- The lines of a block so far, and the first bad one.
use Rattle.std.proofs.Common.{arith, ◌≡◌, ◌∙◌, sym, ap, refl, ℕ, ◌+◌, ◌<◌, ◌≤◌, ◌==◌, Bool, true, false, cond, Bor, List, [], ◌∷◌, ◌++◌, length, length-drop, le_refl, map, take, drop, get_or, Option, Some, None, append_assoc, codes, nat_eq}
use Rattle.std.specs.List.{flat_map, position_from, starts_with}
use Rattle.std.specs.Str.Lines.{strip_carriage_return}
use Rattle.std.proofs.lemmas.Grind.{common_steps}
use Rattle.std.proofs.lemmas.List.{map_push, map-append, flat_map_more, take_more, take-append-drop}
use Rattle.std.proofs.lemmas.List.Splits.{length-slice_split}
use Rattle.std.proofs.lemmas.List.Sums.{count_by-le-length}
use Rattle.std.proofs.lemmas.Iterator.{YieldsList}
use Rattle.std.proofs.lemmas.Iterator.Consumers.{YieldsList-so_far, YieldsList-turn}
use Rattle.std.specs.Iterator.{Yields}
use Rattle.csp_model.specs.Ascii.{split_at}
use Rattle.csp_model.specs.Policies.{Line, Skipped, Bad, Header, line_of, is_bad, policies_of, without_status}
use Rattle.csp_policy.specs.Types.{Origin}

-- what the lines say
abbrev pub says : List (List ℕ) → List Line
says parts = map line_of (map strip_carriage_return parts)

abbrev pub said : List (Bor (List ℕ)) → List Line
said lines = says (map (λ (x : Bor (List ℕ)). x.now) lines)

says_more : (parts : List (List ℕ)) (part : List ℕ) → says (parts ++ part ∷ []) ≡ says parts ++ line_of (strip_carriage_return part) ∷ []
says_more parts part = ap (map line_of) (map_push strip_carriage_return parts part) ∙ map_push line_of (map strip_carriage_return parts) (strip_carriage_return part)

pub said_more : (lines : List (Bor (List ℕ))) (line : Bor (List ℕ)) → said (lines ++ line ∷ []) ≡ said lines ++ line_of (strip_carriage_return line.now) ∷ []
said_more lines line = ap says (map_push (λ (x : Bor (List ℕ)). x.now) lines line) ∙ says_more (map (λ (x : Bor (List ℕ)). x.now) lines) line.now

good_more : (n : ℕ) (lines : List Line) (line : Line) → position_from is_bad n lines ≡ None → is_bad line ≡ false → position_from is_bad n (lines ++ line ∷ []) ≡ None
good_more n [] line h k = grind (arith, common_steps, k)
good_more n (x ∷ lines) line h k = grind (arith, common_steps, k, good_more (n + 1) lines line)

-- one more line that isn't bad
pub still_good : (lines : List (Bor (List ℕ))) (line : Bor (List ℕ)) (said_line : Line) → said_line ≡ line_of (strip_carriage_return line.now) → is_bad said_line ≡ false
    → position_from is_bad 1 (said lines) ≡ None → position_from is_bad 1 (said (lines ++ line ∷ [])) ≡ None
still_good lines line said_line is good h = ap (position_from is_bad 1) (said_more lines line) ∙ good_more 1 (said lines) _ h (ap is_bad (sym is) ∙ good)

-- what one more line adds
pub read_more : (origin : Origin) (lines : List (Bor (List ℕ))) (line : Bor (List ℕ)) (said_line : Line) → said_line ≡ line_of (strip_carriage_return line.now)
    → flat_map (policies_of origin) (said lines) ++ policies_of origin said_line ≡ flat_map (policies_of origin) (said (lines ++ line ∷ []))
read_more origin lines line said_line is =
    flat_map_more (policies_of origin) [] (said lines) said_line ∙ ap (λ l. flat_map (policies_of origin) (said lines ++ l ∷ [])) is
    ∙ ap (flat_map (policies_of origin)) (sym (said_more lines line))

-- the first bad line stands after good ones, whatever follows it
first_is : (n : ℕ) (lines rest : List Line) → position_from is_bad n lines ≡ None → position_from is_bad n (lines ++ Bad ∷ rest) ≡ Some (n + length lines)
first_is n [] rest h = ap Some (omega arith)
first_is n (Bad ∷ lines) rest h = cc
first_is n (Skipped ∷ lines) rest h = first_is (n + 1) lines rest h ∙ ap Some (omega arith)
first_is n (Header name value ∷ lines) rest h = first_is (n + 1) lines rest h ∙ ap Some (omega arith)

says_joined : (xs ys : List (List ℕ)) → says (xs ++ ys) ≡ says xs ++ says ys
says_joined xs ys = ap (map line_of) (map-append strip_carriage_return xs ys) ∙ map-append line_of (map strip_carriage_return xs) (map strip_carriage_return ys)

says_at : (parts : List (List ℕ)) (i : ℕ) (d : List ℕ) → i < length parts → says parts ≡ says (take i parts) ++ line_of (strip_carriage_return (get_or parts i d)) ∷ says (drop (i + 1) parts)
says_at parts i d h =
    ap says (sym (take-append-drop (i + 1) parts)) ∙ says_joined (take (i + 1) parts) (drop (i + 1) parts)
    ∙ ap (λ front. front ++ says (drop (i + 1) parts)) (ap says (take_more parts i d h) ∙ says_more (take i parts) (get_or parts i d))
    ∙ append_assoc (says (take i parts)) (line_of (strip_carriage_return (get_or parts i d)) ∷ []) (says (drop (i + 1) parts))

pub said_length : (lines : List (Bor (List ℕ))) → 1 + length (said lines) ≡ length lines + 1
said_length [] = refl
said_length (line ∷ lines) = let ih = said_length lines in omega arith

pub bad_at : (parts : List (List ℕ)) (lines : List (Bor (List ℕ))) (line : Bor (List ℕ)) → map (λ (x : Bor (List ℕ)). x.now) lines ≡ take (length lines) parts
    → (length lines < length parts) × (line.now ≡ get_or parts (length lines) line.now) → position_from is_bad 1 (said lines) ≡ None → Bad ≡ line_of (strip_carriage_return line.now)
    → position_from is_bad 1 (says parts) ≡ Some (length lines + 1)
bad_at parts lines line so_far now good bad =
    ap (position_from is_bad 1) (says_at parts (length lines) line.now now.0 ∙ ap (λ front. says front ++ line_of (strip_carriage_return (get_or parts (length lines) line.now)) ∷ says (drop (length lines + 1) parts)) (sym so_far)
    ∙ ap (λ l. said lines ++ l ∷ says (drop (length lines + 1) parts)) (ap (λ t. line_of (strip_carriage_return t)) (sym now.1) ∙ sym bad))
    ∙ first_is 1 (said lines) (says (drop (length lines + 1) parts)) good ∙ ap Some (said_length lines)

-- where an iterator stands, as it gives one more item
pub at_turn : {S A B : Type 0} {steps : S → Option A → S → Type 0} {v : A → B} {s : S} {all : List B} (e : YieldsList steps v s all) (xs : List A) (t : S) (y : Yields steps s xs t)
    → (r : Option A) (u : S) (x : A) → r ≡ Some x → steps t r u
    → (map v xs ≡ take (length xs) all) × ((length xs < length all) × (v x ≡ get_or all (length xs) (v x)))
at_turn e xs t y r u x is step = (YieldsList-so_far e xs t y, YieldsList-turn e xs t y r u x is step)

-- a text has no more lines than bytes, but for one
pub few_lines : (bytes : List ℕ) → length (split_at 10 (without_status bytes)) ≤ length bytes + 1
few_lines bytes =
    let lines = length-slice_split (λ b. b == 10) (without_status bytes) in
    let feeds = count_by-le-length (λ b. b == 10) (without_status bytes) in
    let short : length (without_status bytes) ≤ length bytes = shorter (starts_with nat_eq bytes (codes "HTTP/")) _ bytes in
    omega arith
  where
    shorter : (b : Bool) (n : ℕ) (bytes : List ℕ) → length (cond b (drop n bytes) bytes) ≤ length bytes
    shorter true n bytes = let less = length-drop n bytes in omega arith
    shorter false n bytes = le_refl (length bytes)
