-- What callers see of what is kept.
use Rattle.rollover_notes.specs.declared.notes.RolloverNotes.TheInside.{Inside}
use Rattle.rollover_notes.specs.Standing.{KeptRollovers}

abbrev pub kept_of : Inside → KeptRollovers
kept_of n = record {
  ids = n.givings.ids.entries;
  groups = n.givings.groups.keys;
  order = n.givings.order.items;
  packets = n.reports.packets.entries;
  times = n.reports.times.entries;
  said = n.speakers.said.entries;
  speakers = n.speakers.last.entries;
  unready = n.unready.entries;
  late = n.late.entries;
}
