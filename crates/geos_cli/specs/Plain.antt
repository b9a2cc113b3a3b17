-- What is promised of scripts whose lines write no name, where they run.
use Rattle.std.specs.Prelude.{ℕ, List, []}
use Rattle.std.specs.Str.Lines.{lines}
use Rattle.vm_file.specs.Device.{Medium}
use Rattle.geos_kernel.specs.View.{KernelOn}
use Rattle.geos_image.specs.Parts.{Parts}
use Rattle.script_commands.specs.declared.form.Form.{Form}
use Rattle.geos_cli.specs.declared.script.Mode.{Mode}
use Rattle.geos_cli.specs.InForm.{RunsInForm}
use Rattle.script_commands.specs.Names.{Names, lines_said}
use Rattle.script_commands.specs.Plain.{IsPlain}
use Rattle.script_commands.specs.Lines.{commands_of}
use Rattle.geos_cli.specs.WithNames.{RunsLines}

-- its lines run as the commands of the script without names do, and print the same
abbrev pub PlainScriptsRun : {D : Type 0} → Medium D → Type 0
PlainScriptsRun {D} medium =
    (form : Form) (mode : Mode) (image : Parts) (script : List ℕ) (kernel later : KernelOn D) (left : Names) (text : List ℕ) → IsPlain script
    → RunsLines medium form mode image (lines_said script) [] kernel left later text
    → RunsInForm medium form mode image (commands_of image (lines script)) kernel later text
