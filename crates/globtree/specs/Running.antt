-- What the program ends with, and what is asked of it.
use Rattle.std.specs.Prelude.{◌≡◌, ◌⊎◌, ℕ, Bool, if◌then◌else◌}
use Rattle.git_paths.specs.declared.quoting.Quoting.{Quoting}
use Rattle.tree_answers.specs.declared.form.Form.{Form}
use Rattle.tree_answers.specs.declared.form.Form.TheVariants.{Lines, Records}
use Rattle.tree_commands.specs.declared.check_ignore.flags.IgnoreFlags.{IgnoreFlags}
use Rattle.globtree.specs.declared.words.check_ignore.CheckIgnore.{CheckIgnore}

-- all is answered; or something is, and no path is ignored, or not all could be listed
abbrev pub IsAnswered : ℕ → Type 0
IsAnswered status = (status ≡ 0) ⊎ (status ≡ 1)

-- nothing is asked of the input: the words don't fit together, or a name is none that an attribute can have
abbrev pub IsRefused : ℕ → Type 0
IsRefused status = (status ≡ 129) ⊎ (status ≡ 255)

-- or a fault ended the answers
abbrev pub IsStatus : ℕ → Type 0
IsStatus status = IsAnswered status ⊎ (IsRefused status ⊎ (status ≡ 128))

-- records that a NUL ends, or lines
abbrev pub form_by : Bool → Quoting → Form
form_by is_nul quoting = if is_nul then Records else Lines quoting

-- what is written about paths, by the options of `check-ignore`
abbrev pub flags_of : CheckIgnore → Quoting → IgnoreFlags
flags_of asked quoting = record { form = form_by asked.nul quoting; verbose = asked.verbose; non_matching = asked.non_matching; quiet = asked.quiet }
