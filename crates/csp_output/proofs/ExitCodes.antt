-- Each status has an exit code of its own.
use Rattle.std.proofs.Common.{◌≡◌, ℕ, List, [], ◌∷◌, get_or, refl, ap, sym, ◌∙◌}
use Rattle.csp_output.specs.declared.status.Status.{Status}
use Rattle.csp_output.specs.declared.status.Status.TheVariants as status
use Rattle.csp_output.specs.Statuses.{exit_code}

-- the statuses by their exit codes; at 12, which is none's, one stands a second time
statuses : List Status
statuses =
    status.Clean ∷ status.Found ∷ status.Usage ∷ status.BadOrigin ∷ status.BadPolicy ∷ status.TooLarge
    ∷ status.BadRequests ∷ status.BadProof ∷ status.ReadFault ∷ status.WriteFault ∷ status.NoMemory
    ∷ status.ReporterFault ∷ status.Clean ∷ status.BadRequired ∷ []

status_at : ℕ → Status
status_at n = get_or statuses n status.Clean

back : (s : Status) → status_at (exit_code s) ≡ s
unfolding statuses status_at
back status.Clean = refl
back status.Found = refl
back status.Usage = refl
back status.BadOrigin = refl
back status.BadPolicy = refl
back status.TooLarge = refl
back status.BadRequests = refl
back status.BadProof = refl
back status.ReadFault = refl
back status.WriteFault = refl
back status.NoMemory = refl
back status.ReporterFault = refl
back status.BadRequired = refl

pub codes_differ : (one other : Status) → exit_code one ≡ exit_code other → one ≡ other
codes_differ one other same = sym (back one) ∙ ap status_at same ∙ back other
