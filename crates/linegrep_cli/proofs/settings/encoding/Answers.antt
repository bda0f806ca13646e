use Rattle.std.proofs.Common.{◌≡◌, ◌⊎◌, sym, subst}
use Rattle.grep_searcher.specs.ConfigErrors.{IsUnknownEncoding}
use Rattle.grep_searcher.specs.declared.ConfigError.TheVariants.{Memory}
use Rattle.linegrep_cli.specs.SearcherOptions.{IsLabelError}
use Rattle.linegrep_cli.proofs.settings.encoding.Goals as goal

pub returns-in-Err-clause-error : goal.returns-in-Err-clause-error
returns-in-Err-clause-error c =
    let named = subst (λ label. IsUnknownEncoding label.now c.in-Err.error ⊎ (c.in-Err.error ≡ Memory))
    c.in-Some.label-is (c.in-Err.ensures.unknown).1 in
    subst (λ label. IsLabelError label c.in-Err.error) (sym c.in-Some.is) named
