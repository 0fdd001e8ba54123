-- What the words ask for: a command, and the files that it reads.
use Rattle.std.specs.Prelude.{ℕ, Bool, ◌+◌, ◌==◌, ◌&&◌, not, nat_le, nat_lt, if◌then◌else◌}
use Rattle.std.specs.Prelude.{List, [], ◌∷◌, length, slice_index, Option, Some, None, option_map, Result, Ok, Err, codes}
use Rattle.std.specs.Str.{bytes_eq}
use Rattle.csp_model.specs.Ascii.{code}
use Rattle.csp_model.specs.Grammar.{are_digits, decimal_value}
use Rattle.csp_model.specs.declared.url.Origin.{Origin}
use Rattle.csp_model.specs.declared.url.Origin.TheVariants.{Opaque}
use Rattle.csp_url.specs.Origins.{origin_of}
use Rattle.csp_run.specs.Forms.{Form, Judge, Report, Compare, Check, Drill, Embed, Tidy, Learn, Order, Why, Differ, Read}
use Rattle.csp_run.specs.declared.fault.WordsFault.{WordsFault}
use Rattle.csp_run.specs.declared.fault.WordsFault.TheVariants.{Usage, BadOrigin}
use Rattle.csp_run.specs.declared.fault.Role.{Role}
use Rattle.csp_run.specs.declared.fault.Role.TheVariants as role

-- a file that a command reads, and what it is to the command
pub record File : Type 0 where
  pub role : Role
  pub name : List ℕ

-- a command with its files, in the order in which they are read
pub record Command : Type 0 where
  pub form : Form
  pub files : List File

-- files of these roles and names, where there are as many
abbrev pub files_as : List Role → List (List ℕ) → Option (List File)
files_as [] [] = Some []
files_as (role ∷ roles) (name ∷ names) =
    option_map (λ files. record { role = role; name = name } ∷ files) (files_as roles names)
files_as roles names = None

-- the command of this form on such files
abbrev pub command_on : Form → List Role → List (List ℕ) → Option Command
command_on form roles names = option_map (λ files. record { form = form; files = files }) (files_as roles names)

-- files with a list each, of which the first has this number
abbrev pub files_from : ℕ → List (List ℕ) → List File
files_from number [] = []
files_from number (name ∷ names) = record { role = role.List number; name = name } ∷ files_from (number + 1) names

-- the command on 2 to 16 lists
abbrev pub order_on : List (List ℕ) → Option Command
order_on names =
    if nat_le 2 (length names) && nat_le (length names) 16
    then Some (record { form = Order; files = files_from 1 names })
    else None

-- how many pairs of sources a drill has: a decimal number from 1 to 200, without leading zeros
unfoldable pub is_drill_number : List ℕ → Bool
is_drill_number word =
    are_digits word && nat_lt (length word) 4 && not (slice_index word 0 == code "0")
    && nat_le (decimal_value word) 200

-- the number that it is
abbrev pub drill_pairs : List ℕ → Option ℕ
drill_pairs word = if is_drill_number word then Some (decimal_value word) else None

abbrev pub drill_on : Option ℕ → List (List ℕ) → Option Command
drill_on (Some pairs) names = command_on (Drill pairs) [] names
drill_on None names = None

-- the command that a verb, the word behind it and names of files ask for
abbrev pub command_of : List ℕ → List ℕ → List (List ℕ) → Option Command
command_of verb word names =
    if bytes_eq verb (codes "judge") then command_on Judge (role.Policy ∷ role.Requests ∷ []) names
    else if bytes_eq verb (codes "report") then command_on Report (role.Policy ∷ role.Requests ∷ []) names
    else if bytes_eq verb (codes "compare") then command_on Compare (role.First ∷ role.Second ∷ []) names
    else if bytes_eq verb (codes "check") then command_on Check (role.First ∷ role.Second ∷ role.Proof ∷ []) names
    else if bytes_eq verb (codes "drill") then drill_on (drill_pairs word) names
    else if bytes_eq verb (codes "tidy") then command_on Tidy (role.Policy ∷ []) names
    else if bytes_eq verb (codes "learn") then command_on Learn (role.Requests ∷ []) names
    else if bytes_eq verb (codes "order") then order_on names
    else if bytes_eq verb (codes "why") then command_on Why (role.Policy ∷ role.Requests ∷ []) names
    else if bytes_eq verb (codes "differ") then command_on Differ (role.First ∷ role.Second ∷ []) names
    else if bytes_eq verb (codes "read") then command_on Read (role.Block ∷ []) names
    else None

-- how the commands are called
abbrev pub usage : List (List ℕ)
usage =
    codes "usage: judge ORIGIN POLICY REQUESTS | report ORIGIN POLICY REQUESTS"
    ∷ codes " | compare ORIGIN FIRST SECOND | check ORIGIN FIRST SECOND PROOF"
    ∷ codes " | drill N | embed EMBEDDER ORIGIN REQUIRED RESPONSE"
    ∷ codes " | tidy ORIGIN POLICY | learn ORIGIN REQUESTS | order ORIGIN LISTS"
    ∷ codes " | why ORIGIN POLICY REQUESTS"
    ∷ codes " | differ ORIGIN FIRST SECOND | read ORIGIN POLICY\n" ∷ []

-- the origin of the policies of a form's files, which that word is; a drill reads no file, and has another
-- word
unfoldable pub origin_for : Form → List ℕ → Option Origin
origin_for (Drill pairs) word = Some Opaque
origin_for form word = origin_of word

-- a command, the origin of the policies of its files, and these in the order in which they are read
pub record Plan : Type 0 where
  pub form : Form
  pub origin : Origin
  pub files : List File

abbrev pub with_origin : Command → Option Origin → Result Plan WordsFault
with_origin command None = Err BadOrigin
with_origin command (Some origin) = Ok (record { form = command.form; origin = origin; files = command.files })

-- what a command asks for by the word for its origin
abbrev pub with_command : Option Command → List ℕ → Result Plan WordsFault
with_command None word = Err Usage
with_command (Some command) word = with_origin command (origin_for command.form word)

-- what `embed` asks for by the origin of the embedder, the word for that of the response, and its files
abbrev pub with_embedder : Option (List File) → Option Origin → List ℕ → Result Plan WordsFault
with_embedder None embedder word = Err Usage
with_embedder (Some files) None word = Err BadOrigin
with_embedder (Some files) (Some embedder) word =
    with_command (Some (record { form = Embed embedder; files = files })) word

abbrev pub embed_plan : List ℕ → List (List ℕ) → Result Plan WordsFault
embed_plan embedder (word ∷ names) =
    with_embedder (files_as (role.Required ∷ role.Response ∷ []) names) (origin_of embedder) word
embed_plan embedder [] = Err Usage

-- what these words ask for, or why it is nothing: a verb, an origin or a number, and the names of files
abbrev pub plan_of : List (List ℕ) → Result Plan WordsFault
plan_of (verb ∷ word ∷ names) =
    if bytes_eq verb (codes "embed") then embed_plan word names else with_command (command_of verb word names) word
plan_of words = Err Usage

-- the files that it reads
abbrev pub files_asked : Result Plan WordsFault → List File
files_asked (Err f) = []
files_asked (Ok plan) = plan.files
