-- What a log needs rests on the URLs of its fetches alone: so a log of which these are valid is learnt from as one
-- whose checks all are.
use Rattle.std.proofs.Common.{arith, ◌≡◌, ◌∙◌, ◌<◌, ◌+◌, suc, zero, sym, ap, subst, refl, ℕ, Bool, List, [], ◌∷◌, ◌++◌, length, map, get_or, All, Any, Some}
use Rattle.std.specs.List.{flat_map}
use Rattle.std.proofs.lemmas.List.{map-append}
use Rattle.std.proofs.lemmas.List.Elements.{All-nil, All-map, All-weaker}
use Rattle.std.proofs.lemmas.Str.{IsUtf8-nil}
use Rattle.csp_learn.proofs.LogLaws.{needs_after}
use Rattle.csp_learn.specs.Allowed.{AllowsWhatIsNeeded, Needs}
use Rattle.csp_learn.specs.Logs.{Lesson, checks_of, left_at, left_from, left_in, left_of, lesson_of}
use Rattle.csp_learn.specs.Needs.{need_of, needs_of, with_need}
use Rattle.csp_learn.specs.declared.learnt.Place.{Place}
use Rattle.csp_learn.specs.declared.need.Need.{Need}
use Rattle.csp_model.specs.Fetch.{is_redirected}
use Rattle.csp_model.specs.Validity.{IsIntegrityValue, IsValidCheck, IsValidOrigin}
use Rattle.csp_model.specs.declared.check.Check.{Check}
use Rattle.csp_model.specs.declared.check.Check.TheVariants as check
use Rattle.csp_model.specs.declared.check.Group.{Group}
use Rattle.csp_model.specs.declared.policy.Policy.{Policy}
use Rattle.csp_model.specs.declared.source.Hash.{Hash}
use Rattle.csp_model.specs.declared.url.Origin.{Origin}
use Rattle.csp_model.specs.declared.url.Url.{Url}
use Rattle.csp_model.specs.declared.verdict.Described.{Described}
use Rattle.csp_output.specs.Learnt.{IsLearntText, learning, left_line, lesson_output}
use Rattle.csp_output.specs.declared.built.Built.{Built}
use Rattle.csp_policy.specs.HeaderLines.{header_line}
use Rattle.csp_valid.specs.ValidUrls.{HasValidUrl, HaveValidUrls}

-- the check with no more than its URL; one that isn't a fetch says nothing
abbrev plain : Check → Check
plain (check.Fetch group there redirects nonce integrity parser_inserted) =
    check.Fetch group there 0 [] [] parser_inserted
plain asked = check.Eval

abbrev plain_request : Described → Described
plain_request d = record { checks = map plain d.checks; blocked_uri = d.blocked_uri; sample = d.sample }

abbrev AreValid : Described → Type 0
AreValid d = All IsValidCheck d.checks

plain_valid : (asked : Check) → HasValidUrl asked → IsValidCheck (plain asked)
plain_valid (check.Fetch group there redirects nonce integrity parser_inserted) valid =
    (valid, omega arith, IsUtf8-nil, All-nil (λ (h : Hash). IsIntegrityValue h.value))
plain_valid asked valid = tt

request_valid : (d : Described) → HaveValidUrls d → AreValid (plain_request d)
request_valid d valid =
    All-map IsValidCheck plain d.checks (All-weaker HasValidUrl (λ asked. IsValidCheck (plain asked)) plain_valid d.checks valid)

log_valid : (log : List Described) → All HaveValidUrls log → All AreValid (map plain_request log)
log_valid log valid =
    All-map AreValid plain_request log
    (All-weaker HaveValidUrls (λ (d : Described). AreValid (plain_request d)) request_valid log valid)

-- It has the same lesson

checks_plain : (log : List Described) → checks_of (map plain_request log) ≡ map plain (checks_of log)
checks_plain [] = refl
checks_plain (d ∷ log) =
    ap (λ (cs : List Check). map plain d.checks ++ cs) (checks_plain log) ∙ sym (map-append plain d.checks (checks_of log))

same_need : (asked : Check) → need_of (plain asked) ≡ need_of asked
same_need (check.Fetch group there redirects nonce integrity parser_inserted) = refl
same_need asked = refl

same_needs : (needs : List Need) (checks : List Check) → needs_after needs (map plain checks) ≡ needs_after needs checks
same_needs needs [] = refl
same_needs needs (asked ∷ checks) =
    ap (λ n. needs_after (with_need needs n) (map plain checks)) (same_need asked)
    ∙ same_needs (with_need needs (need_of asked)) checks

same_left_at : (request number : ℕ) (asked : Check) → left_at request number (plain asked) ≡ left_at request number asked
same_left_at request number (check.Fetch group there redirects nonce integrity parser_inserted) = refl
same_left_at request number asked = refl

same_left_in : (request number : ℕ) (checks : List Check)
    → left_in request number (map plain checks) ≡ left_in request number checks
same_left_in request number [] = refl
same_left_in request number (asked ∷ checks) =
    ap (λ places. places ++ left_in request (number + 1) (map plain checks)) (same_left_at request number asked)
    ∙ ap (λ places. left_at request number asked ++ places) (same_left_in request (number + 1) checks)

same_left : (request : ℕ) (log : List Described) → left_from request (map plain_request log) ≡ left_from request log
same_left request [] = refl
same_left request (d ∷ log) =
    ap (λ places. places ++ left_from (request + 1) (map plain_request log)) (same_left_in request 1 d.checks)
    ∙ ap (λ places. left_in request 1 d.checks ++ places) (same_left (request + 1) log)

same_lesson : (log : List Described) → lesson_of (map plain_request log) ≡ lesson_of log
same_lesson log =
    ap (λ (n : List Need). let l : Lesson = record { needs = n; left = left_of (map plain_request log) } in l)
    (ap needs_of (checks_plain log) ∙ same_needs [] (checks_of log))
    ∙ ap (λ (p : List Place). let l : Lesson = record { needs = needs_of (checks_of log); left = p } in l) (same_left 1 log)

-- A policy allows what it needs

needs_plain : (o : Origin) (kind : Group) (there : Url) (redirected : Bool) (asked : Check)
    → Needs o kind there redirected (plain asked) → Needs o kind there redirected asked
needs_plain o kind there redirected (check.Fetch group url redirects nonce integrity parser_inserted) is = is
needs_plain o kind there redirected asked is = absurd is

plain_needs : (o : Origin) (kind : Group) (there : Url) (redirected : Bool) (asked : Check)
    → Needs o kind there redirected asked → Needs o kind there redirected (plain asked)
plain_needs o kind there redirected (check.Fetch group url redirects nonce integrity parser_inserted) is = is
plain_needs o kind there redirected asked is = absurd is

here : (P : Check → Type 0) (c : Check) (cs : List Check) → P c → Any P (c ∷ cs)
here P c cs is = (0, c, omega arith, refl, is)

behind : (P : Check → Type 0) (c : Check) (cs : List Check) → Any P cs → Any P (c ∷ cs)
behind P c cs some = (suc some.0, some.1, (let within = some.2 in omega (arith, within)), some.3, some.4)

some_plain : (P : Check → Type 0) (checks : List Check) (k : ℕ) (x : Check) → k < length (map plain checks)
    → get_or (map plain checks) k x ≡ x → P x → Any (λ asked. P (plain asked)) checks
some_plain P [] k x within at is = absurd (omega (arith, within))
some_plain P (c ∷ cs) zero x within at is = here (λ asked. P (plain asked)) c cs (subst P (sym at) is)
some_plain P (c ∷ cs) (suc k) x within at is =
    behind (λ asked. P (plain asked)) c cs (some_plain P cs k x (omega (arith, within)) at is)

plain_some : (P : Check → Type 0) (checks : List Check) (k : ℕ) (x : Check) → k < length checks
    → get_or checks k x ≡ x → P (plain x) → Any P (map plain checks)
plain_some P [] k x within at is = absurd (omega (arith, within))
plain_some P (c ∷ cs) zero x within at is =
    here P (plain c) (map plain cs) (subst (λ asked. P (plain asked)) (sym at) is)
plain_some P (c ∷ cs) (suc k) x within at is =
    behind P (plain c) (map plain cs) (plain_some P cs k x (omega (arith, within)) at is)

allows_same : (checks : List Check) (policy : Policy) → AllowsWhatIsNeeded (map plain checks) policy
    → AllowsWhatIsNeeded checks policy
allows_same checks policy allows kind there redirects nonce integrity parser_inserted =
    let exact = allows kind there redirects nonce integrity parser_inserted in
    let P : Check → Type 0 = Needs policy.origin kind there (is_redirected redirects) in (
      λ yes.
          let some = exact.0 yes in
          let one = some_plain P checks some.0 some.1 some.2 some.3 some.4 in
          (one.0, one.1, one.2, one.3, needs_plain policy.origin kind there (is_redirected redirects) one.1 one.4),
      λ some.
          exact.1
          (plain_some P checks some.0 some.1 some.2 some.3
          (plain_needs policy.origin kind there (is_redirected redirects) some.1 some.4)),
    )

-- What is printed

abbrev pub Prints : Type 0
Prints = (origin : Origin) (log : List Described) (built : Built) → IsValidOrigin origin
    → All (λ (d : Described). All IsValidCheck d.checks) log → learning origin log ≡ Some built
    → IsLearntText origin log built.text

text_same : (origin : Origin) (log : List Described) (text : List ℕ) → IsLearntText origin (map plain_request log) text
    → IsLearntText origin log text
text_same origin log text is = record {
  policy = is.policy;
  lines = is.lines ∙ ap (λ left. header_line is.policy ++ flat_map left_line left) (same_left 1 log);
  back = is.back;
  allows = allows_same (checks_of log) is.policy
      (subst (λ (checks : List Check). AllowsWhatIsNeeded checks is.policy) (checks_plain log) is.allows);
}

pub learnt_of_urls : Prints → (origin : Origin) (log : List Described) (built : Built) → IsValidOrigin origin
    → All HaveValidUrls log → learning origin log ≡ Some built → IsLearntText origin log built.text
learnt_of_urls law origin log built good valid is =
    text_same origin log built.text
    (law origin (map plain_request log) built good (log_valid log valid) (ap (lesson_output origin) (same_lesson log) ∙ is))
