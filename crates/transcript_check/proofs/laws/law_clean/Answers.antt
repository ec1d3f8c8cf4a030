use Rattle.std.proofs.Common.{List, ◌∷◌, [], inl, refl, sym, subst}
use Rattle.lan_base.specs.declared.frame.UserFrame.{UserFrame}
use Rattle.lan_core.specs.declared.settings.Settings.{Settings}
use Rattle.lan_core.specs.Places.{names}
use Rattle.lan_core.specs.Run.{facts_of}
use Rattle.transcript_reader.specs.Facts.{nothing}
use Rattle.transcript_check.proofs.OneGroup.{AreTakenAlone, taken-alone}
use Rattle.transcript_check.proofs.AllFit.{all-fit, few-stations}
use Rattle.transcript_check.proofs.TextLines.{lines-of-transcript}
use Rattle.transcript_check.proofs.Clean.{no-use-pair, few-places, no-key-pair, counted-differ}
use Rattle.transcript_check.proofs.Passing.{Laws, run-passes}
use Rattle.transcript_check.proofs.laws.law_clean.Goals as goal

pub returns : goal.returns
returns c = record {
  lines = λ settings users r legal fresh honest.
      let named = c.law_stations_have_their_names.ensures settings users r legal.stepped in
      let fit = all-fit c.law_typed_facts_have_lines.ensures settings users r legal.stepped
      (c.law_facts_are_typed.ensures settings users r legal.stepped)
      (c.law_facts_have_their_stations.ensures.all settings users r legal.stepped) in
      let alone = subst (λ ls. AreTakenAlone [] [] ls (names r) (facts_of r))
      (sym (lines-of-transcript (record {
        feeds = c.law_no_fact_ends_a_line.ensures.feeds_never;
        returns = c.law_no_fact_ends_a_line.ensures.returns_never;
      }) (names r) named.0 (facts_of r) fit))
      (run-passes settings users (laws settings users) r legal.stepped fresh honest) in
      taken-alone c.law_one_group_tells_what_it_reads.ensures.tells nothing [] _ (names r) (facts_of r) (inl refl) alone;
  once = λ settings users r legal fresh honest.
      no-use-pair r (c.law_once.ensures.legal settings users r legal fresh honest)
      (counted-differ _ (c.law_epochs_count.ensures.counted settings users r legal.stepped))
      (few-places r (few-stations settings users r legal.stepped) (c.law_facts_have_their_stations.ensures.all settings users r legal.stepped));
  one_key = λ settings users r legal fresh honest.
      no-key-pair r (c.law_one_key.ensures.legal settings users r legal fresh honest);
}
  where
    laws : (settings : Settings) (users : List UserFrame) → Laws settings users
    laws settings users = record {
      typed = c.law_facts_are_typed.ensures settings users;
      placed = c.law_facts_have_their_stations.ensures.step settings users;
      starts = c.law_facts_have_their_stations.ensures.start settings users;
      named = c.law_stations_have_their_names.ensures settings users;
      counted = c.law_epochs_count.ensures.counted settings users;
      known = c.law_once.ensures.known settings users;
      fresh = λ x r fresh. c.law_fronts_of_fresh_runs_are_fresh.ensures (x ∷ []) r fresh;
      lines = c.law_typed_facts_have_lines.ensures;
      grow = c.law_more_names_change_no_line.ensures.same;
    }
