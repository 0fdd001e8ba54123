-- The declared types that this crate's files name, passed on from one place. Declares nothing.
pub use Rattle.csp_io.specs.declared.file_inputs.{FileInputs.FileInputs}
pub use Rattle.csp_io.specs.declared.inputs.{ReadError.ReadError}
pub use Rattle.csp_io.specs.declared.memory_inputs.{MemoryInputs.MemoryInputs, OpenFile.OpenFile}
pub use Rattle.csp_io.specs.declared.stream_sink.{StreamSink.StreamSink}
