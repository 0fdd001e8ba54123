-- What laws of a page's calls say.
use Rattle.std.specs.Prelude.{◌≡◌, ℕ, List, [], ◌∷◌, Option, Some, None, Result, Ok, Err}
use Rattle.csp_model.specs.declared.url.Origin.{Origin}
use Rattle.csp_run.specs.Contents.{Content}
use Rattle.csp_run.specs.Files.{file_fault, read_as, then_found}
use Rattle.csp_run.specs.Words.{File}
use Rattle.csp_run.specs.declared.fault.Cause.TheVariants.{Read}
use Rattle.csp_run.specs.declared.fault.FileFault.{FileFault}
use Rattle.csp_run.specs.declared.fault.Role.{Role}

-- what a file holds, by its bytes; one that isn't there can't be read
abbrev pub told_content : Origin → Role → Option (List ℕ) → Result Content FileFault
told_content origin file None = Err (file_fault file Read)
told_content origin file (Some bytes) = read_as origin file bytes

-- what these files hold in their order, or the fault of the first that has one
abbrev pub told_contents : (List ℕ → Option (List ℕ)) → Origin → List File → Result (List Content) FileFault
told_contents contents origin [] = Ok []
told_contents contents origin (file ∷ files) =
    then_found (told_content origin file.role (contents file.name)) (told_contents contents origin files)

-- the file is there, and its bytes have no fault
pub record IsReadable (contents : List ℕ → Option (List ℕ)) (origin : Origin) (file : File) : Type 0 where
  pub content : Content
  pub read : told_content origin file.role (contents file.name) ≡ Ok content
