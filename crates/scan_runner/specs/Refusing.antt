-- The code's refusals of the scan runner as the request's, and a recording's as the runner's.
use Rattle.requests.specs.ScanJob as j
use Rattle.panel_check.specs.Refusing.{panel_refusal_of}
use Rattle.recordings.specs.declared.RecordingRefusal.{RecordingRefusal}
use Rattle.recordings.specs.declared.RecordingRefusal.TheVariants as recording
use Rattle.scan_runner.specs.declared.refusal.ScanRefusal.{ScanRefusal}
use Rattle.scan_runner.specs.declared.refusal.ScanRefusal.TheVariants.{Panel, BadRecording, DrivenChange}

abbrev pub scan_refusal_of : ScanRefusal → j.ScanRefusal
scan_refusal_of (Panel f) = j.panel (panel_refusal_of f)
scan_refusal_of BadRecording = j.bad_recording
scan_refusal_of DrivenChange = j.driven_change

abbrev pub refusal_from : RecordingRefusal → ScanRefusal
refusal_from recording.Broken = BadRecording
refusal_from recording.Driven = DrivenChange
