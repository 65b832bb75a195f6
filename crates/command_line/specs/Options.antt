-- The options of a command.
use Rattle.std.specs.Prelude.{◌≡◌, ℕ, ◌-◌, ◌^◌, Bool, List, Option, ◌∷◌, [], ◌++◌, map, codes, true, false, Some, None}
use Rattle.clap.specs.Words.{Rule, Text, rule_of, shape_of, app_of, Shape}
use Rattle.clap.specs.declared.builder.command.Command.TheViews.{out-Command as fields_of}
use Rattle.clap.specs.declared.builder.action.ArgAction.{ArgAction}
use Rattle.clap.specs.declared.builder.action.ArgAction.TheVariants.{Set}
use Rattle.clap.specs.declared.builder.arg.Arg.{Arg}
use Rattle.clap.specs.declared.builder.value_parser.ValueParser.{ValueParser}
use Rattle.clap.specs.declared.builder.value_parser.ValueParser.TheVariants.{Unsigned}
use Rattle.clap.specs.declared.builder.command.Command.{Command}

-- the name under which the value is found, the word behind -- by which it is given, what giving it does, whether it must be given,
-- what is taken where it is not, and what its value has to be, if not any text
pub record Choice : Type 0 where
  pub name : Text
  pub word : Option Text
  pub action : Option ArgAction
  pub must : Bool
  pub default : List Text
  pub values : Option ValueParser

-- it is given by its own name, and sets one value
abbrev pub choice : Text → Bool → List Text → Choice
choice name must default = record { name = name; word = Some name; action = Some Set; must = must; default = default; values = None }

-- its value is a number from low to high
abbrev pub in_range : ℕ → ℕ → Choice → Choice
in_range low high choice = record choice { values = Some (Unsigned low high) }

-- it must be given
abbrev pub needed : Text → Choice
needed name = choice name true []

-- it may be left out, and then there is none
abbrev pub offered : Text → Choice
offered name = choice name false []

-- it may be left out, and then it is this
abbrev pub standing : Text → Text → Choice
standing name word = choice name false (word ∷ [])

abbrev pub choice_of : Rule → Choice
choice_of rule = record { name = rule.id; word = rule.long; action = rule.action; must = rule.required; default = rule.defaults; values = rule.parser }

-- the argument is this choice, of its own command alone
pub record IsOption (choice : Choice) (arg : Arg) : Type 0 where
  pub choice_is : choice_of (rule_of arg) ≡ choice
  pub local : arg.global ≡ false

-- the command has this name and these options
pub record HasOptions (name : Text) (choices : List Choice) (command : Command) : Type 0 where
  pub called : (shape_of command).name ≡ name
  pub choices_are : map choice_of (shape_of command).rules ≡ choices
  pub local : (fields_of command).has_globals ≡ false

-- the command has these options more, behind those that it had
abbrev pub AddsOptions : List Choice → Command → Command → Type 0
AddsOptions more old new = (name : Text) (had : List Choice) → HasOptions name had old → HasOptions name (had ++ more) new

abbrev pub mine_options : List Choice
mine_options = needed (codes "model") ∷ needed (codes "prec") ∷ offered (codes "fixed") ∷ []

abbrev pub workers_option : Choice
workers_option = in_range 1 64 (standing (codes "workers") (codes "4"))

-- any number of 64 bits
abbrev pub budget_option : Choice
budget_option = in_range 0 (2 ^ 64 - 1) (offered (codes "budget"))

abbrev pub progress_option : Choice
progress_option = in_range 1 86400 (offered (codes "progress"))

-- the number of a column
abbrev pub column_option : Text → Choice
column_option name = in_range 0 63 (needed name)

abbrev pub settings_options : List Choice
settings_options = standing (codes "mode") (codes "single") ∷ workers_option ∷ budget_option ∷ standing (codes "pit") (codes "least") ∷ []

abbrev pub watch_options : List Choice
watch_options = progress_option ∷ offered (codes "stats") ∷ []

abbrev pub output_options : List Choice
output_options = offered (codes "certificate") ∷ offered (codes "journal") ∷ []

abbrev pub blocks_options : List Choice
blocks_options = needed (codes "blocks") ∷ needed (codes "prec") ∷ []

abbrev pub column_options : List Choice
column_options = column_option (codes "revenue") ∷ column_option (codes "cost") ∷ []

abbrev pub solve_options : List Choice
solve_options = settings_options ++ mine_options ++ output_options ++ watch_options

abbrev pub shells_options : List Choice
shells_options = blocks_options ++ column_options ++ needed (codes "factors") ∷ settings_options ++ watch_options

-- a subcommand's name and its options
abbrev pub subcommand_of : Shape → Text × List Choice
subcommand_of shape = (shape.name, map choice_of shape.rules)

abbrev pub subcommands_in : Command → List (Text × List Choice)
subcommands_in command = map subcommand_of (app_of command).subs

abbrev pub check_options : List Choice
check_options = mine_options ++ needed (codes "certificate") ∷ []

abbrev pub replay_options : List Choice
replay_options = mine_options ++ needed (codes "journal") ∷ []
