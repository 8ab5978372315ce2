pub mod StopLaws
mod SayingLaws
mod LoadLaws
mod OrderKinds
mod ReadLaws
mod WorkLaws
mod StoreLaws
mod FileLaws
mod Completeness
mod OpeningLaws
mod EditedLaws
mod DeskLaws
mod TrialLaws
mod Faultless
mod VerifyLaws
mod MeasureLaws
mod ConvertedTexts
mod WaitLaws
