-- The words of a command, as the program has them.
use Rattle.ax_app.specs.declared.command.Command.{Command as Words}
use Rattle.ax_app.specs.declared.command.Command.TheVariants as words
use Rattle.ax_app.specs.Answers.{Command, Lower, Run, Map}

abbrev pub seen : Words → Command
seen (words.Lower target module_name) = Lower target module_name.now
seen (words.Run target module_name schedule_name) = Run target (module_name.now, schedule_name.now)
seen (words.Map target) = Map target
