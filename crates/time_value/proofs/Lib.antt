mod Numbers
mod SpanOrder
mod Reading
mod Taking
mod Literals
mod DurationReading
mod DurationTaking
