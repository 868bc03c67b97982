-- All laws of a port in its ticks. Assumes nothing.
use Rattle.egress.specs.Laws.{EgressLaws}
use Rattle.egress.proofs.GoesLaws.{goes_on, never_idle, in_time, kept_queues}
use Rattle.egress.proofs.TickLaws.{ticks-play, lowest_first}
use Rattle.egress.proofs.OrderLaws.{nobody_overtakes}
use Rattle.egress.proofs.HeldLaws.{nobody_put_off}
use Rattle.egress.proofs.RoomLaws.{room_never_binds}
use Rattle.egress.proofs.HistoryLaws.{queued_in_turn, always_regular, no_longer}
use Rattle.egress.proofs.SourceLaws.{regulators_in_order, regular_waits_not}
use Rattle.egress.proofs.ExampleLaws.{leaves_at_eleven, pass_at_twenty}
use Rattle.egress.proofs.LostLaws.{nobody_lost}
use Rattle.egress.proofs.InTimeLaws.{each_in_time}
use Rattle.egress.proofs.ApartLaws.{come-by-row, by_levels_alone}
use Rattle.egress.proofs.LateLaws.{nobody_late}
use Rattle.egress.proofs.CostLaws.{costs_nothing}
use Rattle.egress.proofs.WindowLaws.{regulator-kept}
use Rattle.egress.proofs.OnwardLaws.{port_to_port}
use Rattle.egress.proofs.DueLaws.{leaves_in_due, passes_in_due, enters_in_due}

pub egress_laws : EgressLaws
egress_laws =
    record {
      goes = goes_on;
      ticks = ticks-play;
      leave = in_time;
      queues = kept_queues;
      idle = never_idle;
      first = lowest_first;
      order = nobody_overtakes;
      regulators = regulators_in_order;
      row = come-by-row;
      alone = by_levels_alone;
      put_off = nobody_put_off;
      room = room_never_binds;
      turn = queued_in_turn;
      lost = nobody_lost;
      in_time = each_in_time;
      late = nobody_late;
      regular = always_regular;
      rows = no_longer;
      source = regular_waits_not;
      costless = costs_nothing;
      regulator = regulator-kept;
      next = port_to_port;
      leaves_due = leaves_in_due;
      passes_due = passes_in_due;
      enters_due = enters_in_due;
      eleven = leaves_at_eleven;
      twenty = pass_at_twenty;
    }
