-- What a page's call gives.
use Rattle.std.specs.Prelude.{◌≡◌, ◌≢◌, ◌<◌, ◌≤◌, ℕ, false, List, [], ◌∷◌, length, take, Option, None, Any, IsUtf8}
use Rattle.csp_desk.specs.declared.reporter.Kind.TheVariants.{Lines, Tally}
use Rattle.csp_io.specs.Starts.{MissingAreUnread}
use Rattle.csp_io.specs.Told.{Rose}
use Rattle.csp_output.specs.Statuses.{exit_code}
use Rattle.csp_page.specs.declared.File.{File}
use Rattle.csp_page.specs.declared.Argument.{Argument}
use Rattle.csp_desk.specs.Desk.{Desk}
use Rattle.csp_run.specs.Due.{End, IsEndOf, end_status, end_text}
use Rattle.csp_run.specs.Files.{World}
use Rattle.csp_run.specs.Words.{plan_of}

-- the bytes of a word, and the name and the bytes of a file
abbrev pub word_of : Argument → List ℕ
word_of word = word.text.now

abbrev pub name_of : File → List ℕ
name_of file = file.name.now

abbrev pub file_of : File → List ℕ × List ℕ
file_of file = (file.name.now, file.bytes.now)

-- some of these texts isn't UTF-8
abbrev pub HasBad : List (List ℕ) → Type 0
HasBad texts = Any (λ text. ¬ (IsUtf8 text)) texts

-- The code and the text are those of an end that the program may come to by these words, over files of these bytes, and
-- with a desk of one reporter of lines and one of counts, which held nothing and never refuse a violation. No file that is
-- there has failed. Of one that isn't there no byte was read, and no end was found.
pub record IsPageAnswer (words : List (List ℕ)) (contents : List ℕ → Option (List ℕ)) (code : ℕ) (text : List ℕ)
    : Type 0 where
  pub world : World
  pub desk : Desk
  pub end : End
  pub files : (n : List ℕ) → world.contents n ≡ contents n
  pub failed : (n : List ℕ) → Rose (world.faults_before n) (world.faults_now n) → contents n ≡ None
  pub missing : MissingAreUnread contents world.log
  pub kinds : desk.kinds ≡ Lines ∷ Tally ∷ []
  pub may_refuse : desk.may_refuse ≡ false ∷ false ∷ []
  pub held : desk.held_before ≡ [] ∷ [] ∷ []
  pub ended : IsEndOf world desk (plan_of words) end
  pub code_is : code ≡ exit_code (end_status end)
  pub text_is : text ≡ end_text end

-- The text of such an end is longer than this room, and this is its front, which fills the room.
pub record IsCutAnswer (words : List (List ℕ)) (contents : List ℕ → Option (List ℕ)) (room : ℕ) (front : List ℕ)
    : Type 0 where
  pub code : ℕ
  pub text : List ℕ
  pub answer : IsPageAnswer words contents code text
  pub longer : room < length text
  pub front_is : front ≡ take room text

-- What clauses of private functions say of the code of a run, and of a copy of what it wrote to a sink of this room.
pub record IsGiven (words : List (List ℕ)) (contents : List ℕ → Option (List ℕ)) (room code : ℕ) (copy : List ℕ)
    : Type 0 where
  pub answer : code ≢ 9 → code ≢ 10 → IsPageAnswer words contents code copy
  pub cut : 10 < room → code ≢ 10 → (least : ℕ) → least < room → least < length copy
      → IsCutAnswer words contents least (take least copy)
  pub full : code ≡ 9 → room ≤ length copy
  pub never_refused : code ≢ 11
  pub never_bad : code ≢ 14
