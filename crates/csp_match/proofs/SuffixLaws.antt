-- The suffixes of a domain stand behind its dots.
use Rattle.std.proofs.Common.{◌≡◌, ℕ, ◌+◌, ◌-◌, ◌<◌, ◌≤◌, true, false, ◌&&◌, List, [], ◌∷◌, suc, add-one, ◌++◌, length, take, drop, get_or, All, map, refl, sym, ◌∙◌, ap, arith, length-append, take-append-drop}
use Rattle.std.proofs.lemmas.Bool.{false≢true}
use Rattle.std.proofs.lemmas.List.{drop_more}
use Rattle.std.proofs.lemmas.List.Elements.{All-contains, All-map}
use Rattle.std.proofs.lemmas.List.Folds.{Any-from_list_any}
use Rattle.csp_model.specs.Ascii.{code}
use Rattle.csp_model.proofs.EndLaws.{subdomain_Decides}
use Rattle.csp_match.specs.Types.{HostPart, HostedUrl, HostKey}
use Rattle.csp_match.specs.Entries.{Entry, entry_parts, IsEntry}
use Rattle.csp_match.specs.Keys.{host_of, IsHostKey, key_length, Parts}
use Rattle.csp_match.specs.Under.{same_part, any_under, is_suffixed, any_suffixed, rest_matches}
use Rattle.csp_match.proofs.AnyLaws.{both, first, found, not_true, second}
use Rattle.csp_match.proofs.KeyLaws.{same_part_is, same_part_itself}

-- what is found under the tail behind a dot
pub suffix_found : (domain : List ℕ) (at : ℕ) (asked : HostedUrl) (sources : List Parts) → at < length domain
    → get_or domain at 0 ≡ code "." → any_under (HostPart.Under (drop (at + 1) domain)) asked sources ≡ true
    → any_suffixed domain asked sources ≡ true
suffix_found domain at asked sources within is_dot h =
    let tail = drop (at + 1) domain in
    let f = Any-from_list_any (λ (s : Parts). same_part s.host (HostPart.Under tail) && rest_matches asked s) sources h in
    let s = f.1 in
    let host = same_part_is s.host (HostPart.Under tail) (first (same_part s.host (HostPart.Under tail)) (rest_matches asked s) f.4) in
    let parted : domain ≡ take at domain ++ code "." ∷ tail =
    sym (take-append-drop at domain) ∙ ap (λ (rest : List ℕ). take at domain ++ rest) (drop_more domain at 0 within ∙ ap (λ (b : ℕ). b ∷ tail) is_dot) in
    let suffixed : is_suffixed domain s.host ≡ true = rw host ((subdomain_Decides domain tail).1 (take at domain, parted)) in
    found (λ (s : Parts). is_suffixed domain s.host && rest_matches asked s) sources f.0 s f.2 f.3
    (both (is_suffixed domain s.host) (rest_matches asked s) suffixed (second (same_part s.host (HostPart.Under tail)) (rest_matches asked s) f.4))

abbrev pub suffix_length : HostPart → ℕ
suffix_length HostPart.Any = 0
suffix_length (HostPart.Under suffix) = length suffix
suffix_length (HostPart.Exact text) = 0

length_is : (key : HostKey) → IsHostKey key → suffix_length (host_of key) ≡ key_length key
length_is HostKey.Any p = refl
length_is (HostKey.Under n suffix) p = sym p
length_is (HostKey.Exact hash text) p = refl

pub short_parts : (longest : ℕ) (entries : List Entry) → All IsEntry entries → All (λ e. key_length e.0 ≤ longest) entries
    → All (λ (s : Parts). suffix_length s.host ≤ longest) (map entry_parts entries)
short_parts longest entries each short =
    All-map (λ (s : Parts). suffix_length s.host ≤ longest) entry_parts entries
    (λ k d within. rw (length_is (get_or entries k d).0 (each k d within).0) (short k d within))

suffix_of : (part : HostPart) (domain : List ℕ) → is_suffixed domain part ≡ true
    → (suffix : List ℕ) × (front : List ℕ) × (part ≡ HostPart.Under suffix) × (domain ≡ front ++ code "." ∷ suffix)
suffix_of HostPart.Any domain h = absurd (false≢true h)
suffix_of (HostPart.Under suffix) domain h =
    let parted = (subdomain_Decides domain suffix).0 h in
    (suffix, parted.0, refl, parted.1)
suffix_of (HostPart.Exact text) domain h = absurd (false≢true h)

get_seam : (front : List ℕ) (x : ℕ) (rest : List ℕ) → get_or (front ++ x ∷ rest) (length front) 0 ≡ x
get_seam [] x rest = refl
get_seam (y ∷ front) x rest = get_seam front x rest

drop_behind : (front : List ℕ) (x : ℕ) (rest : List ℕ) → drop (suc (length front)) (front ++ x ∷ rest) ≡ rest
drop_behind [] x rest = refl
drop_behind (y ∷ front) x rest = drop_behind front x rest

drop_seam : (front : List ℕ) (x : ℕ) (rest : List ℕ) → drop (length front + 1) (front ++ x ∷ rest) ≡ rest
drop_seam front x rest = rw add-one (drop_behind front x rest)

-- no other tail has a suffix
pub suffix_missing : (domain : List ℕ) (longest from : ℕ) (asked : HostedUrl) (sources : List Parts)
    → All (λ (s : Parts). suffix_length s.host ≤ longest) sources → from ≤ length domain - longest - 1
    → ((k d : ℕ) → from ≤ k → k < length domain → get_or domain k d ≡ code "."
    → any_under (HostPart.Under (drop (k + 1) domain)) asked sources ≡ false)
    → any_suffixed domain asked sources ≡ false
suffix_missing domain longest from asked sources short early none =
    not_true _ (λ h.
    let f = Any-from_list_any (λ (s : Parts). is_suffixed domain s.host && rest_matches asked s) sources h in
    let s = f.1 in
    let suffixed = suffix_of s.host domain (first (is_suffixed domain s.host) (rest_matches asked s) f.4) in
    let suffix = suffixed.0 in
    let front = suffixed.1 in
    let k = length front in
    let parted : domain ≡ front ++ code "." ∷ suffix = suffixed.3 in
    let size : length domain ≡ k + 1 + length suffix = omega (arith, ap length parted, length-append front (code "." ∷ suffix)) in
    let fits : length suffix ≤ longest = rw suffixed.2 at (All-contains (λ (t : Parts). suffix_length t.host ≤ longest) sources s short (f.0, f.2, f.3)) in
    let here : get_or domain k 0 ≡ code "." = ap (λ (xs : List ℕ). get_or xs k 0) parted ∙ get_seam front (code ".") suffix in
    let tail : drop (k + 1) domain ≡ suffix = ap (drop (k + 1)) parted ∙ drop_seam front (code ".") suffix in
    let fails = rw tail at (none k 0 (omega (arith, size, fits, early)) (omega (arith, size)) here) in
    let holds = found (λ (t : Parts). same_part t.host (HostPart.Under suffix) && rest_matches asked t) sources f.0 s f.2 f.3
    (both (same_part s.host (HostPart.Under suffix)) (rest_matches asked s) (ap (λ (p : HostPart). same_part p (HostPart.Under suffix)) suffixed.2 ∙ same_part_itself (HostPart.Under suffix))
    (second (is_suffixed domain s.host) (rest_matches asked s) f.4)) in
    false≢true (sym fails ∙ holds))
