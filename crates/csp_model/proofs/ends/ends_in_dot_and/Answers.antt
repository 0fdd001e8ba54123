-- Where a dot stands before a domain's last bytes, these alone decide.
use Rattle.std.proofs.Common.{◌≡◌, ◌≤◌, ◌∙◌, ℕ, ◌-◌, suc, List, ◌∷◌, length, length-drop, drop, get_or, ap, sym, arith}
use Rattle.std.specs.Str.{bytes_eq}
use Rattle.std.proofs.Math.Seq.{drop-cons}
use Rattle.std.proofs.lemmas.List.{take_all}
use Rattle.csp_model.specs.Ascii.{code}
use Rattle.csp_model.proofs.EndLaws.{subdomain_Decides}
use Rattle.csp_model.proofs.ends.ends_in_dot_and.Goals as goal

-- a dot, and what stands after it
from_dot : (domain : List ℕ) (before : ℕ) → suc before ≤ length domain → get_or domain before 0 ≡ code "."
    → drop before domain ≡ code "." ∷ drop (suc before) domain
from_dot domain before within dot = drop-cons domain before 0 within ∙ ap (λ byte. byte ∷ drop (suc before) domain) dot

pub returns-then-domain-front-eq46-clause-value : goal.returns-then-domain-front-eq46-clause-value
returns-then-domain-front-eq46-clause-value c =
    let domain = c.args.domain.now in
    let suffix = c.args.suffix.now in
    let front = c.in-Some.front in
    let before = length domain - length (code "." ∷ suffix) in
    let next : front ≡ suc before = omega arith in
    let dot : get_or domain before 0 ≡ code "." = ap (λ i. get_or domain i 0) (omega arith) ∙ c.if-domain-front-eq46.true in
    let tail = take_all (length domain - front) (drop front domain) (omega (arith, length-drop front domain)) in
    c.eq.ensures ∙ ap (bytes_eq suffix) (tail ∙ ap (λ n. drop n domain) next)
    ∙ sym (ap (bytes_eq (code "." ∷ suffix)) (from_dot domain before (omega arith) dot))

pub returns-then-domain-front-eq46-clause-under : goal.returns-then-domain-front-eq46-clause-under
returns-then-domain-front-eq46-clause-under c =
    rw (returns-then-domain-front-eq46-clause-value c) (subdomain_Decides c.args.domain.now c.args.suffix.now)
