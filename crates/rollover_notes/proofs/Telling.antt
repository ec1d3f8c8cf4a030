-- A frame that is told by what is kept is counted as the history says.
use Rattle.std.proofs.Common.{◌≡◌, ◌∙◌, Bool, List, ◌∷◌, Option, ap}
use Rattle.std.specs.Map.{lookup}
use Rattle.std.specs.BTreeMap.{is_at}
use Rattle.use_notes.specs.declared.frame.RightFrame.{RightFrame}
use Rattle.rollover_notes.specs.declared.counts.Counts.{Counts}
use Rattle.rollover_notes.specs.declared.timing.Timing.{Timing}
use Rattle.rollover_notes.specs.Events.{Event, Used}
use Rattle.rollover_notes.specs.Speaking.{Member}
use Rattle.rollover_notes.specs.Timings.{is_late_frame, timing, timing_by}
use Rattle.rollover_notes.specs.Counted.{Pair, counted, pair_cmp, timing_to, unready_counts}
use Rattle.rollover_notes.specs.Standing.{KeptRollovers, StandsFor, group_key_cmp, has, member_key_cmp}
use Rattle.rollover_notes.specs.inside.Walking.{IsToldToAll, Speaker, said_by, timing_from, walked, is_late_to, counts_at}
use Rattle.rollover_notes.proofs.Walks.{timing_of, walked-all}
use Rattle.rollover_notes.proofs.Lateness.{late-to-all}

module _ (h : List Event) (kept : KeptRollovers) (stands : StandsFor h kept) (frame : RightFrame) where
  -- what the frame is to a member, by what is kept
  abbrev pub kept_timing : Member → Timing
  kept_timing m =
      timing_by (λ key. lookup (is_at (member_key_cmp (m, key))) kept.packets)
      (λ key. lookup (is_at (member_key_cmp (m, key))) kept.times)
      (has group_key_cmp kept.groups (m.0, frame.key)) kept.order frame

  abbrev pub kept_timing_of : Speaker → Timing
  kept_timing_of s = timing_from (said_by kept.said) kept_timing frame s

  same-timing : (m : Member) → kept_timing m ≡ timing h frame m
  same-timing m = λ t. timing_by (λ key. stands.packets m key t) (λ key. stands.times m key t)
      (stands.groups m.0 frame.key t) (stands.order t) frame

  same-timings : kept_timing_of ≡ timing_of h frame
  same-timings = λ t s. timing_from (λ m. stands.said m t) (λ m. same-timing m t) frame s

  module _ (old new : List (Pair × Counts)) (late : Bool)
      (told : IsToldToAll kept_timing_of kept.speakers frame old new late)
      (were : (p : Pair) → lookup (is_at (pair_cmp p)) old ≡ unready_counts h p) where
    pub counts-told : (p : Pair) → lookup (is_at (pair_cmp p)) new ≡ unready_counts (Used frame ∷ h) p
    counts-told p =
        (λ t. told.counts t p)
        ∙ (λ t. walked (same-timings t) frame (counts_at old) kept.speakers p)
        ∙ walked-all h frame kept.speakers told.ordered stands.speakers (counts_at old) p
        ∙ ap (λ (o : Option Counts). counted o frame.packet (timing_to h frame p)) (were p)

    pub late-told : late ≡ is_late_frame h frame
    late-told =
        told.late_to
        ∙ (λ t. is_late_to (same-timings t) kept.speakers)
        ∙ late-to-all h frame kept.speakers told.ordered stands.speakers
