-- What the lines before the first station choose (this profile's own rule).
use Rattle.std.specs.Prelude.{ℕ, List, ◌++◌, Option, Some}
use Rattle.trace_text.specs.declared.line.Line.{Line}
use Rattle.trace_text.specs.declared.line.Line.TheVariants as lines
use Rattle.trace_acts.specs.declared.choices.Rule.{Rule}
use Rattle.trace_acts.specs.declared.choices.Rule.TheVariants.{Counted, Streamed, Listed}
use Rattle.trace_acts.specs.declared.choices.Choices.{Choices}
use Rattle.trace_acts.specs.Settings.{secret_of}

-- listed draws, behind those that were listed before
abbrev pub listed_after : Option Rule → List (List ℕ) → Rule
listed_after (Some (Listed before)) values = Listed (before ++ values)
listed_after _ values = Listed values

-- what a line before the first station chooses
abbrev pub chosen_by : Line → Choices → Choices
chosen_by lines.DrawsCount chosen = record chosen { draws = Some Counted }
chosen_by (lines.DrawsChaCha key) chosen = record chosen { draws = Some (Streamed key) }
chosen_by (lines.DrawsList values) chosen =
    record chosen { draws = Some (listed_after chosen.draws values) }
chosen_by (lines.Conf conf) chosen = record chosen { conf = Some conf }
chosen_by (lines.Window window) chosen = record chosen { window = Some window }
chosen_by (lines.Rekey rekey) chosen = record chosen { rekey = Some rekey }
chosen_by (lines.Lag lag) chosen = record chosen { lag = Some lag }
chosen_by (lines.Suite suite) chosen = record chosen { suite = Some suite }
chosen_by (lines.Flag early) chosen = record chosen { early_flag = Some early }
chosen_by (lines.Group cak ckn) chosen =
    record chosen { group = Some (record { cak = secret_of cak; ckn = ckn }) }
chosen_by _ chosen = chosen
