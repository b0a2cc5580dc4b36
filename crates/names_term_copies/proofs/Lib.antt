mod Closing
mod Copied
