-- Entries in the order of their hosts and of the texts of their paths, and how these texts begin.
use Rattle.std.specs.Prelude.{◌≡◌, ◌≢◌, ℕ, ◌<◌, ◌≤◌, nat_le, ◌==◌, ◌&&◌, ◌++◌, Bool, List, length, take, slice_index, Option, Some, None}
use Rattle.std.specs.Cmp.Lexicographic.{slice_cmp}
use Rattle.std.specs.List.{slice_index_or}
use Rattle.std.specs.List.Sorted.{IsSortedBy}
use Rattle.std.specs.Ordering.{is_le, is_lt, nat_cmp, ordering_then}
use Rattle.std.specs.declared.cmp.Ordering.{Ordering}
use Rattle.std.specs.declared.cmp.Ordering.TheVariants.{Equal}
use Rattle.csp_model.specs.Paths.{front_text}
use Rattle.csp_match.specs.contracts.host_key.HostKeyOrd.TheImpl as host_order
use Rattle.csp_match.specs.declared.hosted_url.HostedUrl.{HostedUrl}
use Rattle.csp_match.specs.declared.host_key.HostKey.{HostKey}
use Rattle.csp_match.specs.declared.host_source.Target.{Target}
use Rattle.csp_match.specs.Entries.{Entry, entry_text, front_fits}

abbrev pub host_cmp : HostKey → HostKey → Ordering
host_cmp = (host_order.ghosts).cmp

abbrev pub text_cmp : List ℕ → List ℕ → Ordering
text_cmp = slice_cmp nat_cmp

-- where an entry stands in the order: a host, and the text of a path
abbrev pub Place : Type 0
Place = HostKey × List ℕ

abbrev pub place : Entry → Place
place e = (e.0, entry_text e)

abbrev pub place_cmp : Place → Place → Ordering
place_cmp p q = ordering_then (host_cmp p.0 q.0) (text_cmp p.1 q.1)

abbrev pub Rises : List Entry → Type 0
Rises entries = IsSortedBy (λ x y. is_lt (place_cmp (place x) (place y))) entries

-- an entry isn't behind this place
abbrev pub is_up_to : Place → Entry → Bool
is_up_to p e = is_le (place_cmp (place e) p)

-- the text begins with this one
abbrev pub Begins : List ℕ → List ℕ → Type 0
Begins text front = (more : List ℕ) × (text ≡ front ++ more)

-- of one host, and the text of the second begins with that of the first
abbrev pub IsOuter : Place → Place → Type 0
IsOuter p q = (host_cmp p.0 q.0 ≡ Equal) × Begins q.1 p.1

abbrev pub IsOuterAt : List Entry → ℕ → ℕ → Type 0
IsOuterAt entries outer n = (d : Entry) → IsOuter (place (slice_index_or entries outer d)) (place (slice_index_or entries n d))

-- the last outer entry before this one, if there is one
abbrev pub IsLastOuter : List Entry → ℕ → Option ℕ → Type 0
IsLastOuter entries n (Some outer) =
    (outer < n) × IsOuterAt entries outer n × ((k : ℕ) → k < n → IsOuterAt entries k n → k ≤ outer)
IsLastOuter entries n None = (k : ℕ) → k < n → IsOuterAt entries k n → ⊥

-- each entry before this one has its outer one
pub record AreOutersTo (entries : List Entry) (outers : List (Option ℕ)) (to : ℕ) : Type 0 where
  pub long : length outers ≡ to
  pub each : (k : ℕ) → k < to → IsLastOuter entries k (slice_index_or outers k None)

-- so many of their first bytes two texts have in common, and no more
pub record IsShared (one other : List ℕ) (n : ℕ) : Type 0 where
  pub within : n ≤ length one
  pub inside : n ≤ length other
  pub same : take n one ≡ take n other
  pub apart : n < length one → n < length other → slice_index one n ≢ slice_index other n

-- a target is no longer than what is shared with a URL's path, and is the URL's
abbrev pub within_fits : HostedUrl → ℕ → Target → Bool
within_fits asked n target =
    nat_le (length target.text.now) n && front_fits asked (length target.text.now == length (front_text asked.path.now)) target
