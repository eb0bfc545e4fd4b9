mod SourceExamples
mod SourceModules
mod SourceObjects
mod SourceSteps
mod SourceUnbuffered
