use Rattle.std.proofs.Common.{◌≡◌, ◌≤◌, ◌-◌, Some, length, map, take, string_bytes}
use Rattle.tool_words.specs.Reading.{settled_by}
use Rattle.tool_words.specs.Options.{no_settings}
use Rattle.tool_words.specs.Settings.{Settings}
use Rattle.tool_words.specs.Faults.{IsOpen}
use Rattle.std.specs.Option.{option_map}
use Rattle.tool_words.proofs.reading.read_settings.Given as goal

-- the words so far are options that come to the settings, and a command may still come of these
abbrev pub invariant-loop-next : goal.invariant-loop-next
invariant-loop-next l =
    let settings : Settings = record {
      cores = l.settings.0;
      limit = l.settings.1.0;
      words = l.settings.1.1.0;
      choices = option_map (λ text. text.now) l.settings.1.1.1.0;
      seed = l.settings.1.1.1.1.0;
      log = l.settings.1.1.1.1.1.0;
      shape = l.settings.1.1.1.1.1.1.0;
      number = l.settings.1.1.1.1.1.1.1.0;
      core = l.settings.1.1.1.1.1.1.1.1.0;
      count = l.settings.1.1.1.1.1.1.1.1.1.0;
      threads = l.settings.1.1.1.1.1.1.1.1.1.1.0;
      loads = l.settings.1.1.1.1.1.1.1.1.1.1.1.0;
      elf = l.settings.1.1.1.1.1.1.1.1.1.1.1.1.0;
      latest = l.settings.1.1.1.1.1.1.1.1.1.1.1.1.1.0;
      certify = l.settings.1.1.1.1.1.1.1.1.1.1.1.1.1.1.0;
    } in
    record {
      within : l.next ≤ length l.words;
      set : settled_by l.verb no_settings (take l.next (map string_bytes l.words)) ≡ Some settings;
      may_go_on : IsOpen settings;
    }

abbrev pub decreases-loop-next : goal.decreases-loop-next
decreases-loop-next l = length l.words - l.next
