-- Heads that cannot be split, of each answer that the runs of a site have.
use Rattle.std.specs.Prelude.{◌≡◌, ℕ, List, Some}
use Rattle.asp_core.specs.declared.setting.Setting.{Setting}
use Rattle.asp_core.specs.Kernel.{rules_by}
use Rattle.asp_job.specs.declared.answer.Answer.{Answer}
use Rattle.asp_job.specs.declared.entry.Entry.{Entry}
use Rattle.asp_job.specs.Output.{answer_of_run}
use Rattle.asp_response.specs.AnswerText.{IsAnswerText}
use Rattle.asp_response.specs.Sound.{HasWholeLines}
use Rattle.asp_acts.specs.Running.{meaning_of}
use Rattle.asp_site.specs.declared.site.Site.{Site}

-- The bytes of each answer that a journal has for a run, of a site and with a setting, are lines of printable characters,
-- each ended by CR LF, then the empty line and the content.
abbrev pub HeadsStayWhole : Type 0
HeadsStayWhole = (site : Site) (setting : Setting) (past : List Entry) (run : ℕ) (answer : Answer) (moment : ℕ)
    (bytes : List ℕ) → answer_of_run (rules_by (meaning_of site) setting) past run ≡ Some answer
    → IsAnswerText answer moment bytes → HasWholeLines bytes
