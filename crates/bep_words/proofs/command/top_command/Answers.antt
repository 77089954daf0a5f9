use Rattle.std.proofs.Common.{◌≡◌, true, codes, ap, ◌∙◌}
use Rattle.clap.specs.Words.{App, app_of, new_app}
use Rattle.clap.specs.Simple.{app_of_fields, on_top}
use Rattle.bep_words.proofs.command.top_command.Goals as goal

abbrev with_version : App → App
with_version = on_top (λ s. record s { has_version = true })

abbrev with_required : App → App
with_required = on_top (λ s. record s { subcommand_required = true })

abbrev with_help : App → App
with_help = on_top (λ s. record s { arg_required_else_help = true })

pub returns : goal.returns
returns c =
    let named : app_of c.in_ok-named.named ≡ new_app (codes "syncaudit") = ap app_of_fields c.in_ok-named.ensures.0 ∙ c.new.ensures.app in
    let versioned : app_of c.after_help.result ≡ with_version (new_app (codes "syncaudit")) = ap app_of_fields c.after_help.ensures ∙ ap app_of_fields c.about.ensures ∙ ap app_of_fields c.version.ensures ∙ ap with_version named in
    let required : app_of c.subcommand_required.result ≡ with_required (with_version (new_app (codes "syncaudit"))) = ap app_of_fields c.subcommand_required.ensures ∙ ap with_required versioned in
    ap app_of_fields c.arg_required_else_help.ensures ∙ ap with_help required
