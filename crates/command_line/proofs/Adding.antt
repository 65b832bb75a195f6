-- An option that is added to a command stands behind those that it has; and so does a subcommand.
use Rattle.std.proofs.Common.{◌≡◌, ℕ, Bool, List, ◌∷◌, [], ◌++◌, Result, IfOk, ap, ap₂, ◌∙◌, sym, subst}
use Rattle.std.specs.Prelude.{map, Ok, Err, Some, ◌||◌}
use Rattle.std.proofs.lemmas.List.{map-append, append_assoc}
use Rattle.clap.specs.Words.{AddsArg, AddsSubcommand, App, Text, app_of, rule_of, shape_of}
use Rattle.clap.specs.declared.builder.arg.Arg.{Arg}
use Rattle.clap.specs.declared.builder.command.Command.{Command}
use Rattle.command_line.specs.Options.{choice_of, subcommand_of, subcommands_in, AddsOptions, Choice, HasOptions, IsOption}

pub adds : (choice : Choice) (old new : Command) (arg : Arg) → IsOption choice arg → AddsArg old arg new → AddsOptions (choice ∷ []) old new
adds choice old new arg is added name had has =
    let shape = added.shape is.local in
    record {
      called = ap (λ (app : App). app.top.name) shape ∙ has.called;
      choices_are = ap (λ (app : App). map choice_of app.top.rules) shape ∙ map-append choice_of (shape_of old).rules (rule_of arg ∷ [])
          ∙ ap₂ (λ (xs : List Choice) (x : Choice). xs ++ x ∷ []) has.choices_are is.choice_is;
      local = added.globals ∙ ap₂ (λ (a b : Bool). a || b) has.local is.local;
    }

pub both : (xs ys : List Choice) (a b c : Command) → AddsOptions xs a b → AddsOptions ys b c → AddsOptions (xs ++ ys) a c
both xs ys a b c first second name had has =
    subst (λ (choices : List Choice). HasOptions name choices c) (append_assoc had xs ys) (second name (had ++ xs) (first name had has))

-- the place in the help is no matter
pub placed : (choice : Choice) (arg new : Arg) (place : ℕ) → new ≡ record arg { disp_ord = Some place } → IsOption choice arg → IsOption choice new
placed choice arg new place same is = subst (λ (it : Arg). IsOption choice it) (sym same)
    (record { choice_is = is.choice_is; local = is.local })

pub adds_last : {E : Type 0} (xs : List Choice) (choice : Choice) (a b : Command) (arg : Arg) (made : Result Command E) → AddsOptions xs a b
    → IsOption choice arg → IfOk made (AddsArg b arg) → IfOk made (AddsOptions (xs ++ choice ∷ []) a)
adds_last xs choice a b arg (Ok new) first is added = both xs (choice ∷ []) a b new first (adds choice b new arg is added)
adds_last xs choice a b arg (Err e) first is added = tt

-- a command that has options, and more of them
pub has_more : {E : Type 0} (name : Text) (had more : List Choice) (a : Command) (made : Result Command E) → HasOptions name had a
    → IfOk made (AddsOptions more a) → IfOk made (HasOptions name (had ++ more))
has_more name had more a (Ok new) has added = added name had has
has_more name had more a (Err e) has added = tt

pub has_one_more : {E : Type 0} (name : Text) (had : List Choice) (choice : Choice) (a : Command) (arg : Arg) (made : Result Command E)
    → HasOptions name had a → IsOption choice arg → IfOk made (AddsArg a arg) → IfOk made (HasOptions name (had ++ choice ∷ []))
has_one_more name had choice a arg (Ok new) has is added = adds choice a new arg is added name had has
has_one_more name had choice a arg (Err e) has is added = tt

pub adds_subcommand : (name : Text) (choices : List Choice) (old sub new : Command) → HasOptions name choices sub → AddsSubcommand old sub new
    → subcommands_in new ≡ subcommands_in old ++ (name, choices) ∷ []
adds_subcommand name choices old sub new has added =
    ap (λ (app : App). map subcommand_of app.subs) (added.shape has.local) ∙ map-append subcommand_of (app_of old).subs (shape_of sub ∷ [])
    ∙ ap₂ (λ (n : Text) (cs : List Choice). subcommands_in old ++ (n, cs) ∷ []) has.called has.choices_are

pub adds_two_subcommands : {E : Type 0} (name other : Text) (choices more : List Choice) (old a b mid : Command) (made : Result Command E)
    → HasOptions name choices a → HasOptions other more b → AddsSubcommand old a mid → IfOk made (AddsSubcommand mid b)
    → IfOk made (λ new. subcommands_in new ≡ subcommands_in old ++ (name, choices) ∷ (other, more) ∷ [])
adds_two_subcommands name other choices more old a b mid (Ok new) has has_other first added =
    adds_subcommand other more mid b new has_other added
    ∙ ap (λ (subs : List (Text × List Choice)). subs ++ (other, more) ∷ []) (adds_subcommand name choices old a mid has first)
    ∙ append_assoc (subcommands_in old) ((name, choices) ∷ []) ((other, more) ∷ [])
adds_two_subcommands name other choices more old a b mid (Err e) has has_other first added = tt
